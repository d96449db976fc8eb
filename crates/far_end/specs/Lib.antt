-- What `far_end` states.
pub mod FarEnd

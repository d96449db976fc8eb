pub mod ChainLineLaws

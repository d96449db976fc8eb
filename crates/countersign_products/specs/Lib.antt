-- What the contracts of `countersign_products` cite.
pub mod Products

pub mod ChainLines

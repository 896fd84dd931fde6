pub mod Embedding

pub mod Theorems

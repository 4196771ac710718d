-- Three of the vectors, as theorems of the definition.
mod Vectors

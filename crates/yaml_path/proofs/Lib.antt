mod ChildIds
mod Numerals

mod Trees
mod Ids
mod Walks
mod Moves
mod OneOfBoth
mod Counting

mod Duplicates
mod Firsts
mod SameKeys
mod Seen

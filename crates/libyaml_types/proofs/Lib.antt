mod Directives
mod Pairs
mod Places

mod Counting
mod Dealings
mod Dealt
mod Sums

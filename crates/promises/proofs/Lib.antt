mod Whole
mod Bites

mod Broken
mod Circles
mod Cycles
mod Made

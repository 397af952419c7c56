mod Changing
mod Keeping
mod Scanning
mod InRank

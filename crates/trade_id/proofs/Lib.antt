mod Marks
mod Runs

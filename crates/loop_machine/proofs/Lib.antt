mod Runs
mod Plans
mod Turns
mod Variables
mod Steps

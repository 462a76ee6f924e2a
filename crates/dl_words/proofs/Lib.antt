mod Numbers
mod Joining

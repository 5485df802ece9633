mod Numbers
mod Samples

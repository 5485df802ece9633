mod Numbers
mod Steps

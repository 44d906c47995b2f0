mod Numbers
mod Sets
mod Tables

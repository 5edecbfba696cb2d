mod Rests
mod Tables

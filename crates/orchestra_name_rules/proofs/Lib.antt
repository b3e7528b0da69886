mod Seeking
mod Entering

mod Rated

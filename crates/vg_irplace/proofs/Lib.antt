mod Unplaced

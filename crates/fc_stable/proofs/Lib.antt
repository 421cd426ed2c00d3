mod Solving

mod Primitives

-- The limits of numbers and grids, each named once. This project's own.
use Rattle.std.specs.Prelude.{ℕ, ◌^◌}

-- no number is read as more than this in size
abbrev pub largest : ℕ
largest = 10 ^ 30

-- no coordinate and no cell's size is more than 40,000,000 in size
abbrev pub most_coordinate : ℕ
most_coordinate = 40000000

-- the most cells that a grid may have
abbrev pub most_cells : ℕ
most_cells = 16777216

-- How many equal steps reach so far. This project's own.
use Rattle.std.specs.Prelude.{◌≡◌, ℕ, ◌<◌, ◌≤◌, ℤ, ◌*ℤ◌, pos, int_le, nat_le}

-- so many steps of a size, or more, reach so far, of those below a count
pub record IsLeastSteps (reach size : ℤ) (count steps : ℕ) : Type 0 where
  pub within : steps ≤ count
  pub at : (n : ℕ) → n < count → int_le reach (size *ℤ pos n) ≡ nat_le steps n

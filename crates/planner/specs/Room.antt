-- What a text has room for.
use Rattle.std.specs.Prelude.{ℕ, List, length, ◌+◌, ◌≤◌}
use Rattle.planner.specs.declared.TheConstants as constant

-- the text t has room for w
abbrev pub HasRoom : List ℕ → List ℕ → Type 0
HasRoom t w = length t + length w ≤ constant.Plan.CHARACTERS

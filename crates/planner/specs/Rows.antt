-- What a list says of each switch.
use Rattle.std.specs.Prelude.{ℕ, ◌<◌, ◌≡◌, List, slice_index}

-- the first k elements of l are below b
abbrev pub Below : ℕ → ℕ → List ℕ → Type 0
Below b k l = (i : ℕ) → i < k → slice_index l i < b

-- l holds f i for every i below k
abbrev pub Tells : ℕ → List ℕ → (ℕ → ℕ) → Type 0
Tells k l f = (i : ℕ) → i < k → slice_index l i ≡ f i

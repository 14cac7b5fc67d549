-- What the plan of a cutting means, and what the theorem asks of the test of a window (document 01, "Covering and cutting").
--     Cuts ok a es b     a cutting whose windows pass the test ok
--     Bounds ok n        a window goes forward and ends within the set
--     Suffix ok          the rest of a window that passes, from any later place on, passes
--     Windows ok n       both: what the theorem asks
--     Fewest ok n es     es is a cutting of the whole, and none has fewer windows; after any number of windows no cutting of the set or of a start is farther
--     StuckAt ok n g     no cutting of the whole; g is the longest start that can be cut
--     Means ok n plan    what a plan says
use Rattle.std.specs.Prelude.{◌≡◌, Bool, true, List, ℕ, ◌≤◌, ◌<◌, length}
use Rattle.theory_cutting.specs.Cutting.{Cutting, delivered}
use Rattle.theory_cutting.specs.Greedy.{Plan, done, stuck}

abbrev pub Cuts : (ℕ → ℕ → Bool) → ℕ → List ℕ → ℕ → Type 0
Cuts ok = Cutting (λ i k. ok i k ≡ true)

pub record Bounds (ok : ℕ → ℕ → Bool) (n : ℕ) : Type 0 where
  pub forward : (i k : ℕ) → ok i k ≡ true → i < k
  pub inside : (i k : ℕ) → ok i k ≡ true → k ≤ n

abbrev pub Suffix : (ℕ → ℕ → Bool) → Type 0
Suffix ok = (i j k : ℕ) → i ≤ j → j < k → ok i k ≡ true → ok j k ≡ true

pub record Windows (ok : ℕ → ℕ → Bool) (n : ℕ) : Type 0 where
  pub bounds : Bounds ok n
  pub suffix : Suffix ok

pub record Fewest (ok : ℕ → ℕ → Bool) (n : ℕ) (es : List ℕ) : Type 0 where
  pub cuts : Cuts ok 0 es n
  pub fewest : (fs : List ℕ) → Cuts ok 0 fs n → length es ≤ length fs
  pub ahead : (b : ℕ) (fs : List ℕ) → Cuts ok 0 fs b → (j : ℕ) → delivered 0 fs j ≤ delivered 0 es j

pub record StuckAt (ok : ℕ → ℕ → Bool) (n g : ℕ) : Type 0 where
  pub short : g < n
  pub upto : List ℕ
  pub cuts : Cuts ok 0 upto g
  pub longest : (b : ℕ) (fs : List ℕ) → Cuts ok 0 fs b → b ≤ g

abbrev pub Means : (ℕ → ℕ → Bool) → ℕ → Plan → Type 0
Means ok n (done es) = Fewest ok n es
Means ok n (stuck g) = StuckAt ok n g

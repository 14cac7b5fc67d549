-- The order of lines (document 01, "Sheet and seed list"; document 02, R-3 and R-4).
--     after kind k         the keys that may stand after the lines of the key k
--     missing p            chain lines are missing
--     may_stand kind p      the keys that may stand at the place p
--     among k ks           the key k is one of ks
--     in_order kind p k     a line with the key k may stand at the place p
--     last_keys kind        the keys after whose lines a text may end
--     may_end kind p        the text may end there
use Rattle.std.specs.Prelude.{Bool, true, false, ◌&&◌, ◌||◌, List, [], ◌∷◌, eqb, ltb}
use Rattle.text_keys.specs.Keys.{same}
use Rattle.text_keys.specs.declared.Key.{Key}
use Rattle.text_keys.specs.declared.Key.TheVariants as key
use Rattle.text_order.specs.declared.Kind.{Kind}
use Rattle.text_order.specs.declared.Kind.TheVariants.{Sheet, SeedList}
use Rattle.text_place.specs.declared.Place.{Place}

-- One invert line and then one window line may follow the chain lines (document 02, R-4 and R-3). A sheet has depth and then slice lines, a seed list stop and slices and then seed lines; any number of them.
unfoldable pub after : Kind → Key → List Key
after kind key.Cells = key.Taps ∷ []
after kind key.Taps = key.Chains ∷ []
after kind key.Chains = key.Chain ∷ []
after Sheet key.Chain = key.Invert ∷ key.Window ∷ key.Depth ∷ []
after Sheet key.Invert = key.Window ∷ key.Depth ∷ []
after Sheet key.Window = key.Depth ∷ []
after Sheet key.Depth = key.Slice ∷ []
after Sheet key.Slice = key.Slice ∷ []
after Sheet key.Stop = []
after Sheet key.Slices = []
after Sheet key.Seed = []
after SeedList key.Chain = key.Invert ∷ key.Window ∷ key.Stop ∷ []
after SeedList key.Invert = key.Window ∷ key.Stop ∷ []
after SeedList key.Window = key.Stop ∷ []
after SeedList key.Depth = []
after SeedList key.Slice = []
after SeedList key.Stop = key.Slices ∷ []
after SeedList key.Slices = key.Seed ∷ []
after SeedList key.Seed = key.Seed ∷ []

-- One chain line per chain.
unfoldable pub missing : Place → Bool
missing p = same p.last key.Chain && ltb p.run p.chains

unfoldable pub may_stand : Kind → Place → List Key
may_stand kind p = elim (eqb p.run 0) [
  | true ↦ key.Cells ∷ []
  | false ↦ elim (missing p) [ true ↦ key.Chain ∷ [] | false ↦ after kind p.last ]
]

unfoldable pub among : Key → List Key → Bool
among k [] = false
among k (j ∷ ks) = same k j || among k ks

unfoldable pub in_order : Kind → Place → Key → Bool
in_order kind p k = among k (may_stand kind p)

-- A sheet without a slice line and a list without a seed line are read, and refused over the whole.
abbrev pub last_keys : Kind → List Key
last_keys Sheet = key.Depth ∷ key.Slice ∷ []
last_keys SeedList = key.Slices ∷ key.Seed ∷ []

unfoldable pub may_end : Kind → Place → Bool
may_end kind p = among p.last (last_keys kind)

-- The key with which a line begins (document 01, "Sheet and seed list": "Text lines are key=value").
--     starts k l      the bytes l begin with the bytes k
--     key_of rs l      the key among the rows rs with whose name the line l begins, or unknown
use Rattle.text_keys.specs.declared.Key.{Key}
use Rattle.std.specs.Prelude.{Bool, true, false, ◌&&◌, List, [], ◌∷◌, ℕ, eqb, None, Option, Some}
use Rattle.text_keys.specs.Keys.{Row}

unfoldable pub starts : List ℕ → List ℕ → Bool
starts [] l = true
starts (a ∷ k) [] = false
starts (a ∷ k) (b ∷ l) = eqb a b && starts k l

unfoldable pub key_of : List Row → List ℕ → Option Key
key_of [] l = None
key_of (r ∷ rs) l = elim (starts r.name l) [ true ↦ Some r.key | false ↦ key_of rs l ]

-- Sets of keys as words, with the key of rank r at bit r.
--     set_of ks     the set of the keys ks
--     sets_of k     those of the keys that may stand after the lines of the key k, in a sheet and in a seed list
use Rattle.std.specs.Prelude.{List, [], ◌∷◌, ℕ, ◌^◌}
use Rattle.std.specs.Int.Bits.{bit_or}
use Rattle.text_keys.specs.Keys.{rank}
use Rattle.text_keys.specs.declared.Key.{Key}
use Rattle.text_order.specs.Order.{after}
use Rattle.text_order.specs.declared.Kind.TheVariants.{Sheet, SeedList}
use Rattle.text_order.specs.declared.Followers.{Followers}

abbrev pub set_of : List Key → ℕ
set_of [] = 0
set_of (k ∷ ks) = bit_or (2 ^ rank k) (set_of ks)

abbrev pub sets_of : Key → Followers
sets_of k = record { 0 = set_of (after Sheet k); 1 = set_of (after SeedList k) }

-- Blocks of a space: x with one vector added, and the vectors before it; and its front, x with the first vectors.
--     block_within, front-within     a member of a block or of the front is a member of the space
--     block_rising, front_rising     their vectors rise
--     front-split      one vector more: the front and a block
-- Assumes nothing.
use mathlib.Core.Path.{sym, subst}
use mathlib.Core.Logic.{◌⊎◌, inl, inr, ⊎_elim}
use mathlib.Core.List.{List, [], ◌∷◌}
use Prim.Native.Nat.{ℕ, zero, suc, ◌<◌}
use native.Mathlib.Omega.{arith}
use lib.Bits.{bit_xor}
use lib.ListN.{get_or, length, take, length-take}
use lib.Seq.{get_or-take}
use Rattle.words_gf2.proofs.Xor.{xor_swap}
use Rattle.search_space.specs.Space.{ZeroAt, Rising, none, more}
use Rattle.search_space.proofs.Members.{Among, among_lowest, zero_sum}

pub block_within : (vs : List ℕ) (x d s : ℕ) → d < length vs → Among (bit_xor x (get_or vs d 0)) (take d vs) s → Among x vs s
unfolding Among
block_within [] x d s h a = absurd (omega arith)
block_within (v ∷ vs) x zero s h a = inr (subst (λ (t : ℕ). Among (bit_xor x v) vs t) (sym a) (among_lowest vs (bit_xor x v)))
block_within (v ∷ vs) x (suc d) s h a = ⊎_elim
    (λ b. inl (block_within vs x d s (omega arith) b))
    (λ b. inr (block_within vs (bit_xor x v) d s (omega arith) (subst (λ (t : ℕ). Among t (take d vs) s) (xor_swap x (get_or vs d 0) v) b)))
    a

zero_take : (h d : ℕ) (vs : List ℕ) → ZeroAt h vs → ZeroAt h (take d vs)
zero_take h d vs z k l =
    let m : k < d = omega (arith, length-take d vs) in
    rw (get_or-take d vs k 0 m) (z k (omega (arith, length-take d vs)))

pub block_rising : {x l : ℕ} (vs : List ℕ) (d : ℕ) → d < length vs → Rising x l vs → Rising (bit_xor x (get_or vs d 0)) l (take d vs)
block_rising [] d h r = absurd (omega arith)
block_rising (v ∷ vs) zero h r = none
block_rising {x} (v ∷ vs) (suc d) h (more t a e z o r) =
    more t a e (zero_sum x (get_or vs d 0) t z (o d (omega arith))) (zero_take t d vs o) (block_rising vs d (omega arith) r)

pub front-within : (vs : List ℕ) (x d s : ℕ) → Among x (take d vs) s → Among x vs s
unfolding Among
front-within [] x zero s a = a
front-within [] x (suc d) s a = a
front-within (v ∷ vs) x zero s a = subst (λ (t : ℕ). Among x (v ∷ vs) t) (sym a) (among_lowest (v ∷ vs) x)
front-within (v ∷ vs) x (suc d) s a = ⊎_elim (λ b. inl (front-within vs x d s b)) (λ b. inr (front-within vs (bit_xor x v) d s b)) a

pub front_rising : {x l : ℕ} (vs : List ℕ) (d : ℕ) → Rising x l vs → Rising x l (take d vs)
front_rising [] zero r = none
front_rising [] (suc d) r = none
front_rising (v ∷ vs) zero r = none
front_rising (v ∷ vs) (suc d) (more t a e z o r) = more t a e z (zero_take t d vs o) (front_rising vs d r)

pub front-split : (vs : List ℕ) (x d s : ℕ) → d < length vs → Among x (take (suc d) vs) s → Among x (take d vs) s ⊎ Among (bit_xor x (get_or vs d 0)) (take d vs) s
unfolding Among
front-split [] x d s h a = absurd (omega arith)
front-split (v ∷ vs) x zero s h a = a
front-split (v ∷ vs) x (suc d) s h a = ⊎_elim
    (λ b. ⊎_elim (λ c. inl (inl c)) (λ c. inr (inl c)) (front-split vs x d s (omega arith) b))
    (λ b. ⊎_elim
    (λ c. inl (inr c))
    (λ c. inr (inr (subst (λ (t : ℕ). Among t (take d vs) s) (xor_swap x v (get_or vs d 0)) c)))
    (front-split vs (bit_xor x v) d s (omega arith) b))
    a

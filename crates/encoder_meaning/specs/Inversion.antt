-- Encoding under inverted chains (document 02, R-4): a well-formed set is encoded as the set whose specified bits at inverted chains are flipped is without inversion, under the stop slice flipped alike.
--     InvertedEncoding g masks stop specified bits out     the answer and the buffer are the same
use Rattle.std.specs.Prelude.{◌≡◌, List, ℕ, Ok}
use Rattle.machine_settings.specs.declared.Settings.{Settings}
use Rattle.machine_slices.specs.declared.TestSlice.{TestSlice}
use Rattle.machine_inversion.specs.Inversion.{flipped, flipped_bits, upright}
use Rattle.refusal_order.specs.Order.{judged}
use Rattle.refusal_checks.specs.Calls.{set_faults}
use Rattle.encoder_meaning.specs.Encoding.{encode_set}

abbrev pub InvertedEncoding : Settings → List ℕ → TestSlice → List ℕ → List ℕ → List ℕ → Type 0
InvertedEncoding g masks stop specified bits out =
    judged (set_faults g masks stop specified bits) ≡ Ok tt
    → encode_set g masks stop specified bits out ≡ encode_set (upright g) masks (flipped g.invert stop) specified (flipped_bits g.invert specified bits) out

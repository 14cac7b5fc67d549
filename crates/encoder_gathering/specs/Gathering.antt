-- What gathering the windows of a segment gives: from a place on to the end of the slices.
--     gathered_seeds M R set from     the seeds of the greedy windows from there on
--     gathered M R set earlier       where these windows lead, and how many seeds there are with the earlier ones
use Rattle.std.specs.Prelude.{List, ℕ, ◌+◌, length}
use Rattle.machine_settings.specs.Machine.{Machine}
use Rattle.machine_slices.specs.declared.TestSlice.{TestSlice}
use Rattle.theory_cutting.specs.Greedy.{hop, ends}
use Rattle.theory_covering.specs.Rules.{Rules}
use Rattle.theory_covering.specs.Windows.{ok}
use Rattle.encoder_meaning.specs.Encoding.{seeds_of}
use Rattle.encoder_settling.specs.declared.Gathered.{Gathered}

unfoldable pub gathered_seeds : Machine → Rules → List TestSlice → ℕ → List ℕ
gathered_seeds M R set from = seeds_of M R set from (ends (ok M R set) (length set) (length set) from)

unfoldable pub gathered : Machine → Rules → List TestSlice → Gathered → Gathered
gathered M R set earlier = record {
  place = hop (ok M R set) (length set) (length set) earlier.place;
  count = earlier.count + length (gathered_seeds M R set earlier.place);
}

-- What the functions of expanding ask for.
--     Sized g masks             at most 64 cells, a limit that is not refused, at most 64 chains
use Rattle.std.specs.Prelude.{List, ℕ, ◌≤◌, length}
use Rattle.machine_settings.specs.declared.Settings.{Settings}
use Rattle.refusal_lengths.specs.Lengths.{most_limit}

pub record Sized (g : Settings) (masks : List ℕ) : Type 0 where
  pub cells : g.cells ≤ 64
  pub limit : g.limit ≤ most_limit
  pub chains : length masks ≤ 64

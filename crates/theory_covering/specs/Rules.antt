-- How the windows of a set are placed, closed and stopped (document 01, "Covering and cutting"): what may differ from one call to another without a change of the definitions.
--     Rules          limit: the most slices of a window; edges: places that no window crosses; live: the stop slice of a window that starts at a place; open_end: the window that ends the set need not close with its stop
--     Raised small large     the rules `large` are the rules `small` with a limit that is not smaller (document 02, R-3)
--     segment_rules g stop closing   the rules of a segment under a call's settings: no edge within, one stop slice, and a window that ends the segment closes with its stop where `closing` says so
--     rules g stop   the rules of a set: it is one segment, and its last window need not close with its stop (document 02, R-5)
--     closed_rules R  the rules R, but every window closes with its stop
use Rattle.std.specs.Prelude.{◌≡◌, Bool, false, not, List, [], ℕ, ◌≤◌}
use Rattle.machine_settings.specs.declared.Settings.{Settings}
use Rattle.machine_slices.specs.declared.TestSlice.{TestSlice}

pub record Rules : Type 0 where
  pub limit : ℕ
  pub edges : List ℕ
  pub live : ℕ → TestSlice
  pub open_end : Bool

pub record Raised (small large : Rules) : Type 0 where
  pub limit : small.limit ≤ large.limit
  pub edges : small.edges ≡ large.edges
  pub live : (i : ℕ) → small.live i ≡ large.live i
  pub open_end : small.open_end ≡ large.open_end

abbrev pub segment_rules : Settings → TestSlice → Bool → Rules
segment_rules g stop closing = record { limit = g.limit; edges = []; live = λ _. stop; open_end = not closing }

abbrev pub rules : Settings → TestSlice → Rules
rules g stop = segment_rules g stop false

abbrev pub closed_rules : Rules → Rules
closed_rules R = record { limit = R.limit; edges = R.edges; live = R.live; open_end = false }

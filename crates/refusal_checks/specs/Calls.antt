-- Which of causes 1 to 5 hold for what each kind of call hands in (document 01, "Refusal sheet"). A call that lacks a part is not refused by its cause.
--     limited          cause 3: the limit of the settings, and the lengths of the call
--     call_faults       a call with settings, whose own lengths, slices and stop slice are judged by the caller
--     window_faults     a window with its stop slice
--     set_faults        a set with its stop slice
--     cubes_faults      a set that comes as cubes, without a stop slice
--     stop_faults       a set whose stop slice is asked for
--     list_faults       a seed list
use Rattle.std.specs.Prelude.{Bool, false, ◌||◌, List, ℕ, length}
use Rattle.machine_settings.specs.declared.Settings.{Settings}
use Rattle.machine_settings.specs.Machine.{bad_chains_of}
use Rattle.machine_register.specs.Register.{bad_register}
use Rattle.machine_chains.specs.Chains.{bad_count}
use Rattle.machine_slices.specs.declared.TestSlice.{TestSlice}
use Rattle.machine_slices.specs.Slices.{bad_slices, bad_stop}
use Rattle.refusal_lengths.specs.Lengths.{bad_limit, bad_window, bad_set, bad_cubes, bad_list}
use Rattle.refusal_order.specs.declared.Faults.{Faults}

unfoldable pub limited : Settings → Bool → Bool
limited g lengths = bad_limit g.limit || lengths

-- The register, the chains, the inverted ones and the limit of every call with settings are judged here.
unfoldable pub call_faults : Settings → List ℕ → Bool → Bool → Bool → Faults
call_faults g masks lengths slices stop = record {
  register = bad_register g.cells g.taps;
  chains = bad_chains_of g masks;
  lengths = limited g lengths;
  slices = slices;
  stop = stop;
}

unfoldable pub window_faults : Settings → List ℕ → TestSlice → List ℕ → List ℕ → Faults
window_faults g masks stop specified bits = call_faults g masks (bad_window g.limit (length specified)) (bad_slices (length masks) specified bits) (bad_stop (length masks) stop)

unfoldable pub set_faults : Settings → List ℕ → TestSlice → List ℕ → List ℕ → Faults
set_faults g masks stop specified bits = call_faults g masks (bad_set (length specified)) (bad_slices (length masks) specified bits) (bad_stop (length masks) stop)

unfoldable pub cubes_faults : Settings → List ℕ → ℕ → List ℕ → List ℕ → Faults
cubes_faults g masks depth specified bits = call_faults g masks (bad_cubes depth (length specified)) (bad_slices (length masks) specified bits) false

unfoldable pub list_faults : Settings → List ℕ → TestSlice → ℕ → ℕ → Faults
list_faults g masks stop slices seeds = call_faults g masks (bad_list slices seeds) false (bad_stop (length masks) stop)

unfoldable pub stop_faults : ℕ → List ℕ → List ℕ → Faults
stop_faults chains specified bits = record {
  register = false;
  chains = bad_count chains;
  lengths = bad_set (length specified);
  slices = bad_slices chains specified bits;
  stop = false;
}

-- `window_spaces::store` meets its contract. Assumes nothing.
use Rattle.window_spaces.proofs.Storing.{held_store}
use Rattle.window_spaces.proofs.store.Goals as goal

pub returns-clause-space : goal.returns-clause-space
returns-clause-space c =
    let a = c.args in
    rw c.min-count.ensures (held_store a.spaces.now c.copy_from_slice.new.self a.vectors.now a.place a.space.lowest a.space.free c.requires.place_in_bounds c.requires.vectors_len (rw c.min-count.ensures at c.copy_from_slice.ensures.after))

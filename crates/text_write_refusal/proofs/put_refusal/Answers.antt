-- `text_write_refusal::put_refusal` meets its contract. The two lines are stored one after the other.
-- Assumes nothing.
use native.Mathlib.Omega.{arith}
use Rattle.text_write_refusal.specs.Refused.{refused_text}
use Rattle.text_write_bytes.proofs.Storing.{join}
use Rattle.text_write_refusal.proofs.Lengths.{refusal_parts}
use Rattle.text_write_refusal.proofs.put_refusal.Goals as goal

pub put_number_line-a-requires : goal.put_number_line-a-requires
put_number_line-a-requires c = (omega arith, omega arith, omega (arith, refusal_parts c.args.refusal))

pub put_number_line-requires : goal.put_number_line-requires
put_number_line-requires c = (omega arith, omega arith, omega (arith, refusal_parts c.args.refusal))

pub returns : goal.returns
unfolding refused_text
returns c = join c.put_number_line-a.ensures c.put_number_line.ensures

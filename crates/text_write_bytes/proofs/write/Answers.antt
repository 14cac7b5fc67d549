-- `text_write_bytes::write` meets its contract. What was counted first is stored where there is space for it.
-- Assumes nothing.
use Rattle.text_write_bytes.proofs.Storing.{filled, filled_short}
use Rattle.text_write_bytes.proofs.write.Goals as goal

pub returns-then-out-needed : goal.returns-then-out-needed
returns-then-out-needed g c =
    record {
      answer = λ text puts. (filled_short (puts _ _ _ c.put-needed.ensures) _ c.if-out-needed.true).0;
      buffer = λ text puts. (filled_short (puts _ _ _ c.put-needed.ensures) _ c.if-out-needed.true).1;
    }

pub returns : goal.returns
returns g c =
    record {
      answer = λ text puts. (filled (puts _ _ _ c.put-needed.ensures) _ c.if-out-needed.false (puts _ _ _ c.put.ensures)).0;
      buffer = λ text puts. (filled (puts _ _ _ c.put-needed.ensures) _ c.if-out-needed.false (puts _ _ _ c.put.ensures)).1;
    }

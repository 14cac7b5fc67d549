-- `text_calls::answer_entries` meets its contract. Assumes nothing.
use Rattle.text_calls.proofs.answer_entries.Goals as goal

pub returns-in-Sheet : goal.returns-in-Sheet
returns-in-Sheet c = record { answer = rw c.in-Sheet.is c.encode_entries.ensures.answer; buffer = rw c.in-Sheet.is c.encode_entries.ensures.buffer }

pub returns-in-SeedList : goal.returns-in-SeedList
returns-in-SeedList c = record { answer = rw c.in-SeedList.is c.expand_entries.ensures.answer; buffer = rw c.in-SeedList.is c.expand_entries.ensures.buffer }

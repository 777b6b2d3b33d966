use mathlib.Core.Path.{sym}
use native.Mathlib.Omega.{arith}
use Rattle.table_bytes.specs.ReadLaws.{no_head, cut_value, other_tag, other_length, whole_head}
use Rattle.table_bytes.proofs.head.Goals as goal

pub returns-then-bytes-lt-HEAD_BYTES : goal.returns-then-bytes-lt-HEAD_BYTES
returns-then-bytes-lt-HEAD_BYTES c = sym (no_head _ _ _ (omega arith))

pub returns-then-found-number : goal.returns-then-found-number
returns-then-found-number c = sym (other_tag _ _ _ (omega arith) (omega arith))

pub returns-then-announced-len : goal.returns-then-announced-len
returns-then-announced-len c = sym (other_length _ _ _ (omega arith) (omega arith) (omega (arith, c.two-announced.ensures)))

pub returns-then-there-announced : goal.returns-then-there-announced
returns-then-there-announced c = sym (cut_value _ _ _ (omega arith) (omega arith) (omega (arith, c.two-announced.ensures)) (omega (arith, c.two-announced.ensures)))

pub returns-else-there-announced : goal.returns-else-there-announced
returns-else-there-announced c = sym (whole_head _ _ _ (omega arith) (omega arith) (omega (arith, c.two-announced.ensures)) (omega (arith, c.two-announced.ensures)))

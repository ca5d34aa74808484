use Rattle.std.proofs.Common.{◌≡◌, map, take}
use Rattle.partner_core.proofs.ledger.DiaryMachine.copy.Given as goal

-- the texts so far are copied
abbrev pub invariant-loop-text : goal.invariant-loop-text
invariant-loop-text l = map (λ text. text.items) l.texts.items ≡ map (λ text. text.items) (take l.text-index l.text-items)

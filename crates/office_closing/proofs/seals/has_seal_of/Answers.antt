use Rattle.std.proofs.Common.{◌≡◌, ◌↔◌, Some, true, map, sym, ap, ap₂, ◌∙◌, rules}
use Rattle.sqlite.specs.Held.{state}
use Rattle.office_tables.proofs.WriteLemmas.{nothing_read, only_on, only_stopped}
use Rattle.office_closing.specs.{Register.{SealedContent, register_content, sealed_content}, Seals.{Sealed, closed_at, seal_at, sealed_with}}
use Rattle.office_closing.proofs.SealLemmas.{has_one}
use Rattle.office_closing.proofs.seals.has_seal_of.Goals as goal

pub returns-clause-has : goal.returns-clause-has
returns-clause-has g c clean rows has once =
    let register = register_content c.args.register.now in
    let place = c.args.place in
    let partner = c.args.partner in
    let number = c.args.number in
    let one : SealedContent = sealed_content c.in-Some.sealed.now in
    let sealed : Sealed = record { piece = c.in-Some-seal_at.piece; seal = c.in-Some-seal_at.seal.now } in
    let some : Some one ≡ sealed_with place register.sealed = c.in-Some.ensures ∙ ap (λ l. sealed_with place (map sealed_content l)) c.deref.ensures.value in
    let closing : c.in_ok-closing.closing.items ≡ closed_at place register.segments = c.in_ok-closing.ensures ∙ ap (closed_at place) c.deref-2.ensures.value in
    let found : seal_at (closed_at place register.segments) one.seals partner number ≡ Some sealed =
    sym (ap₂ (λ k s. seal_at k s partner number) (c.deref-3.ensures.value ∙ closing) c.deref-4.ensures.value) ∙ c.in-Some-seal_at.ensures.found in
    let tells : (c.eq.result ≡ true) ↔ (c.in_ok-own.own.items ≡ sealed.seal) = search rules in
    has_one register place rows one some partner number sealed c.in_ok-own.own.items c.eq.result found (c.in_ok-own.ensures.seals clean rows has once) tells

pub returns-in_default-clause-reads : goal.returns-in_default-clause-reads
returns-in_default-clause-reads g c = nothing_read (state g.S.Store c.args.conn.now) _

pub returns-in_err-closing-clause-reads : goal.returns-in_err-closing-clause-reads
returns-in_err-closing-clause-reads g c = nothing_read (state g.S.Store c.args.conn.now) _

pub returns-in_default-seal_at-clause-reads : goal.returns-in_default-seal_at-clause-reads
returns-in_default-seal_at-clause-reads g c = nothing_read (state g.S.Store c.args.conn.now) _

pub returns-in_err-own-clause-reads : goal.returns-in_err-own-clause-reads
returns-in_err-own-clause-reads g c = only_stopped _ c.from_residual-in_err-own.ensures.0 c.in_err-own.ensures.reads

pub returns-clause-reads : goal.returns-clause-reads
returns-clause-reads g c = only_on _ c.in_ok-own.ensures.reads

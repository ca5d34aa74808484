use Rattle.std.proofs.Common.{◌≡◌, ℕ, List, [], ◌∷◌, ◌++◌, length, vec_len, None, sym, ap, ◌∙◌, rules, subst}
use Rattle.edi_messages.specs.Owned.{call_content}
use Rattle.terminal_core.specs.{declared.lines.Listing.Listing, State.Lines, Listings.{key_of, line_content, lines_of}, LineIndexes.{AreNoted, NotesIndex}}
use Rattle.terminal_core.proofs.{Lined.line_added, Noted.one_noted}
use Rattle.std.specs.FinMap as finite_map
use Rattle.terminal_core.proofs.lists.Lists.add.Goals as goal

pub invariant_of-self-2 : goal.invariant_of-self-2
invariant_of-self-2 c =
    let P : List Listing → Type 0 = λ rows. AreNoted rows c.note.new.indexes in
    let Q : ℕ → Type 0 = NotesIndex c.self.inside.indexes c.note.new.indexes (call_content c.args.line.call) c.args.line.side c.args.line.container in
    let absent : finite_map.get (lines_of c.self.inside.rows.items) (key_of c.args.line) ≡ None = ap (λ (l : Lines). finite_map.get l (key_of c.args.line)) c.self.view_is ∙ c.requires in
    let all : length c.self.inside.rows.items ≡ vec_len c.self.inside.rows = search rules in
    let long : c.len-row_index.result ≡ length c.self.inside.rows.items = c.len-row_index.ensures ∙ c.in_ok-reserve.ensures.len ∙ sym all in
    subst P (sym (c.append.ensures.rows ∙ ap (λ (rows : List Listing). rows ++ c.args.line ∷ []) c.in_ok-reserve.ensures.items))
    (one_noted c.self.inside.rows.items c.args.line c.self.inside.indexes c.note.new.indexes absent c.self.invariant (subst Q long c.in_ok-note.ensures.ok))

pub returns-clause-ok : goal.returns-clause-ok
returns-clause-ok c =
    let absent = ap (λ (l : Lines). finite_map.get l (key_of c.args.line)) c.self.view_is ∙ c.requires in
    ap lines_of (c.append.ensures.rows ∙ ap (λ (rows : List Listing). rows ++ c.args.line ∷ []) c.in_ok-reserve.ensures.items) ∙ line_added c.self.inside.rows.items c.args.line absent
    ∙ ap (λ (l : Lines). finite_map.insert l (key_of c.args.line) (line_content c.args.line)) c.self.view_is

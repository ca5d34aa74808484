use Rattle.std.proofs.{Common.{◌≡◌, ℕ, List, ◌++◌, append_assoc, codes, string_bytes, ap, ◌∙◌}, lemmas.Result.on_ok_weaker}
use Rattle.office_reports.specs.Metrics.{gauge_head}
use Rattle.office_reports.proofs.metrics.push_versions.Goals as goal

both : (first mid last : List ℕ) (a b : List ℕ) → mid ≡ first ++ a → last ≡ mid ++ b → last ≡ first ++ (a ++ b)
both first mid last a b is then = then ∙ ap (λ (t : List ℕ). t ++ b) is ∙ append_assoc first a b

six : (s t u v w x y : List ℕ) (a b c d e f : List ℕ) → t ≡ s ++ a → u ≡ t ++ b → v ≡ u ++ c → w ≡ v ++ d → x ≡ w ++ e → y ≡ x ++ f →
    y ≡ s ++ (((((a ++ b) ++ c) ++ d) ++ e) ++ f)
six s t u v w x y a b c d e f first second third fourth fifth sixth =
    both s x y ((((a ++ b) ++ c) ++ d) ++ e) f
    (both s w x (((a ++ b) ++ c) ++ d) e
    (both s v w ((a ++ b) ++ c) d (both s u v (a ++ b) c (both s t u a b first second) third) fourth) fifth) sixth

pub returns : goal.returns
returns c =
    on_ok_weaker c.push_text-5.result
    (λ last. six (string_bytes c.args.text.now) (string_bytes c.push_head.new.text) (string_bytes c.push_text.new.text) (string_bytes c.push_text-2.new.text)
    (string_bytes c.push_text-3.new.text) (string_bytes c.push_text-4.new.text) (string_bytes c.push_text-5.new.text)
    (gauge_head (codes "office_info") (codes "Versions of the program and of its store.")) (codes "office_info{version=\"") c.args.versions.program.now
    (codes "\",store_version=\"") c.args.versions.store.now (codes "\"} 1\n")
    c.in_ok-push_head.ensures c.in_ok-push_text.ensures c.in_ok-push_text-2.ensures c.in_ok-push_text-3.ensures c.in_ok-push_text-4.ensures last)
    c.push_text-5.ensures

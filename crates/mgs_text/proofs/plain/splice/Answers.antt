use Rattle.std.proofs.Common.{Ok, ◌≡◌, List, ℕ, take, drop, append_assoc, sym, ◌∙◌}
use Rattle.std.proofs.lemmas.Iterator.{YieldsList-from_slice}
use Rattle.std.proofs.lemmas.Iterator.Adapters.{items_from_extend}
use Rattle.std.proofs.lemmas.Iterator.Consumers.{YieldsList-from_copied, YieldsList-at}
use Rattle.mgs_model.specs.Text.{edited}
use Rattle.mgs_text.proofs.plain.splice.Goals as goal
use Rattle.mgs_text.proofs.plain.splice.Goals.{in-Ok, in-Err}

-- what the iterator gives are the characters
pub returns-clause-ok : goal.returns-clause-ok
returns-clause-ok c =
    let road = YieldsList-from_copied {s = c.copied.result} (YieldsList-at c.copied.ensures.source (YieldsList-from_slice c.args.put.now c.iter.ensures.rest)) in
    elim c.match-splice.branch [
      | in-Ok w ↦
          let h = w.in-Ok.ensures.items in let text = c.args.chars.now.items in
          rw w.result-is (items_from_extend {E = Unit {0}} {P = λ (xs : List ℕ). c.splice.new.self.items ≡ edited c.args.a c.args.b xs c.args.chars.now.items} (Ok tt) (h.0, h.1, h.2, h.4 ∙ sym (append_assoc (take c.args.a text) h.1 (drop c.args.b text)), h.3) road)
      | in-Err w ↦ rw w.result-is tt
    ]

use Rattle.std.proofs.Common.{◌≡◌, ◌∙◌, ◌+◌, ◌<◌, ℕ, List, ◌∷◌, length, drop, ap, refl, sym, subst, subst₂, arith}
use Rattle.std.specs.Prelude.{get_or}
use Rattle.std.proofs.lemmas.List.{drop_all, drop_more}
use Rattle.mgs_ledger.specs.NewFile.{AreTextsPut}
use Rattle.mgs_ledger.proofs.TextsPut.{put_no_more, put_then}
use Rattle.mgs_ledger.proofs.new_file.put_texts.Goals.{then-loop-i-test+else-i-texts, else-loop-i-test}
use Rattle.mgs_ledger.proofs.new_file.put_texts.Goals as goal

-- what is left begins with what stands at the index
at_index : {X : Type 0} (xs : List X) (i : ℕ) (x : X) → i < length xs → x ≡ get_or xs i x → drop i xs ≡ x ∷ drop (i + 1) xs
at_index xs i x within is = drop_more xs i x within ∙ ap (λ y. y ∷ drop (i + 1) xs) (sym is)

pub loop-i-preserved : goal.loop-i-preserved
loop-i-preserved g c last rest =
    let i = c.loop-i.i in
    let rows = at_index c.args.rows.now i c.index-rows-i.result (omega (arith, c.loop-i-test.true)) c.index-rows-i.is in
    let texts = at_index c.args.texts.now i c.index-texts-i.result (omega (arith, c.if-i-texts.true)) c.index-texts-i.is in
    let both = put_then g.S.Store c.index-rows-i.result (drop (i + 1) c.args.rows.now) c.index-texts-i.result (drop (i + 1) c.args.texts.now) c.loop-i.conn c.put_text_of.new.conn last c.in_ok-put_text_of.ensures rest in
    c.loop-i.invariant last (subst₂ (λ rs ts. AreTextsPut g.S.Store rs ts c.loop-i.conn last) (sym rows) (sym texts) both)

pub returns : goal.returns
returns g c =
    let i = c.loop-i.i in
    elim c.loop-i-test.branch [
      | then-loop-i-test+else-i-texts w ↦
          c.loop-i.invariant c.loop-i.conn
          (subst (λ ts. AreTextsPut g.S.Store (drop i c.args.rows.now) ts c.loop-i.conn c.loop-i.conn) (sym (drop_all i c.args.texts.now (omega (arith, w.if-i-texts))))
          (put_no_more g.S.Store (drop i c.args.rows.now) c.loop-i.conn))
      | else-loop-i-test w ↦
          c.loop-i.invariant c.loop-i.conn
          (subst (λ rs. AreTextsPut g.S.Store rs (drop i c.args.texts.now) c.loop-i.conn c.loop-i.conn) (sym (drop_all i c.args.rows.now (omega (arith, w.loop-i-test)))) refl)
    ]

-- An edit of a block and of its line feeds.
use Rattle.std.proofs.Common.{◌≡◌, ℕ, ◌+◌, ◌-◌, ◌≤◌, List, ◌++◌, take, drop, length, sym, ap, ap₂, ◌∙◌, arith, zero-add, length-take-le, drop-drop}
use Rattle.mgs_gap.specs.Feeds.{feeds_from, ends_from, AreFeeds}
use Rattle.mgs_gap.specs.Gapped.{Gapped, gapped}
use Rattle.mgs_gap.proofs.FeedLists.{feeds_from-append}

-- r: with room; t: after the move of the gap; d: after the deletion; e: after the insertion
module _ (now r t d e : Gapped) (a b : ℕ) (put : List ℕ)
    (same : r.front ++ r.back ≡ now.front ++ now.back)
    (to : t ≡ gapped (take a (r.front ++ r.back)) r.gap (drop a (r.front ++ r.back)))
    (del : d ≡ gapped t.front (t.gap + (b - a)) (drop (b - a) t.back))
    (ins : e ≡ gapped (d.front ++ put) (d.gap - length put) d.back) where
  abbrev whole : List ℕ
  whole = now.front ++ now.back

  shows : e ≡ gapped (take a whole ++ put) (r.gap + (b - a) - length put) (drop (b - a) (drop a whole))
  shows = ins ∙ ap (λ (v : Gapped). gapped (v.front ++ put) (v.gap - length put) v.back) del
      ∙ ap (λ (v : Gapped). gapped (v.front ++ put) (v.gap + (b - a) - length put) (drop (b - a) v.back)) to
      ∙ ap (λ l. gapped (take a l ++ put) (r.gap + (b - a) - length put) (drop (b - a) (drop a l))) same

  pub edited_front : e.front ≡ take a whole ++ put
  edited_front = ap (λ (v : Gapped). v.front) shows

  pub edited_back : a ≤ b → e.back ≡ drop b whole
  edited_back order = let at : a + (b - a) ≡ b = omega (arith, order) in ap (λ (v : Gapped). v.back) shows ∙ drop-drop (b - a) a whole ∙ ap (λ i. drop i whole) at

  pub edited_gap : (length put ≤ now.gap → r ≡ now) → length put ≤ now.gap → e.gap ≡ now.gap + (b - a) - length put
  edited_gap kept room = ap (λ (v : Gapped). v.gap) shows ∙ ap (λ (v : Gapped). v.gap + (b - a) - length put) (kept room)

  module _ (front back rest : List ℕ) (seen-front : front ≡ r.front) (seen-back : back ≡ r.back) (seen-rest : rest ≡ t.back) where
    seen : front ++ back ≡ whole
    seen = ap₂ (λ (x y : List ℕ). x ++ y) seen-front seen-back ∙ same

    -- cb, ca: the numbers after the move of the gap; db, da: after the deletion; fb, fa: after the insertion
    pub feeds_edited : (cb ca db da fb fa : List ℕ) → a ≤ length whole → AreFeeds cb ca (take a (front ++ back)) (drop a (front ++ back))
        → db ≡ cb → da ≡ ends_from 0 (drop (b - a) rest) → fb ≡ db ++ feeds_from a put → fa ≡ da → AreFeeds fb fa e.front e.back
    feeds_edited cb ca db da fb fa within cut eb ea fbe fae =
        let long : length (take a whole) ≡ a = length-take-le a whole within in
        let left : rest ≡ drop a whole = seen-rest ∙ ap (λ (v : Gapped). v.back) to ∙ ap (drop a) same in (
          fbe ∙ ap (λ (l : List ℕ). l ++ feeds_from a put) (eb ∙ cut.0 ∙ ap (λ l. feeds_from 0 (take a l)) seen)
              ∙ ap (λ k. feeds_from 0 (take a whole) ++ feeds_from k put) (sym long ∙ sym (zero-add (length (take a whole))))
              ∙ sym (feeds_from-append 0 (take a whole) put) ∙ ap (feeds_from 0) (sym (ap (λ (v : Gapped). v.front) shows)),
          fae ∙ ea ∙ ap (λ l. ends_from 0 (drop (b - a) l)) left ∙ ap (ends_from 0) (sym (ap (λ (v : Gapped). v.back) shows)),
        )

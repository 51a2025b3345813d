-- A page that comes in chunks: its end comes to what one call on the joined bytes comes to, wherever the cuts fall, and the next page starts
-- from nothing. Over the promises of the calls. Assumes nothing.
use mathlib.Core.Path.{◌≡◌, sym, ap, subst, ◌∙◌}
use mathlib.Core.List.{List, [], ◌∷◌}
use Prim.Native.Nat.{ℕ}
use Rattle.bits.specs.Numbers.{Bytes}
use Rattle.collector.specs.Collector.{HasRoom, page_of, AlikeKept, collected_all}
use Rattle.collector.proofs.Held.{Holds, holds_none, holds_chunks, held_alike, emptied_counts}
use Rattle.collected_page.proofs.NotKept.{front_decides}
use Rattle.promises.specs.Promises.{ApplyControl, ApplyThresholds, EmptyCollector, Meant, EndPage}
use Rattle.promises.specs.PromisesForC.{ApplyControlForC, ApplyThresholdsForC, EndPageForC}
use Rattle.promises.specs.Bus.{Event, chunk, shelf, Happens, chunks_of, bytes_put, Empty, AsOne}
use Rattle.promises.proofs.NoTwoOutcomes.{meant}
use Rattle.refusals.specs.Answers.{PageAnswer}

-- the collector has had all chunks, whatever became of the shelf
chunks_put : (es : List Event) (c s d x : List ℕ) → Happens es c s d x → d ≡ collected_all c (chunks_of es)
chunks_put [] c s d x e = e.0
chunks_put (chunk y ∷ es) c s d x e = chunks_put es e.0 s d x e.2 ∙ ap (λ (m : List ℕ). collected_all m (chunks_of es)) e.1
chunks_put (shelf y ∷ es) c s d x e = chunks_put es c y d x e

-- what no collector tells apart is answered alike, and makes the same of the shelf
pub not_told_apart : (code : ℕ) (s p q : List ℕ) → Bytes p → AlikeKept p q → {r : PageAnswer} {o : List ℕ} → Meant code s p r o → Meant code s q r o
not_told_apart code s p q b a h = let f = front_decides s p q b a code in (h.0 ∙ f.0, h.1 ∙ f.1)

-- so what is beyond the largest page changes nothing but by its count
pub control_not_kept : (s p q : List ℕ) → Bytes p → AlikeKept p q → {r : PageAnswer} {o : List ℕ} → ApplyControl s p r o → ApplyControl s q r o
control_not_kept s p q b a h = not_told_apart 0x02 s p q b a h

pub thresholds_not_kept : (s p q : List ℕ) → Bytes p → AlikeKept p q → {r : PageAnswer} {o : List ℕ} → ApplyThresholds s p r o → ApplyThresholds s q r o
thresholds_not_kept s p q b a h = not_told_apart 0x05 s p q b a h

-- an empty collector is made by its call, and left by the end call, whatever that answers
pub emptied_first : (c : List ℕ) {d : List ℕ} → HasRoom c → EmptyCollector c d → Empty d
emptied_first c h e = subst Empty (sym e) (emptied_counts c h)

pub emptied_at_end : (c s : List ℕ) (code : ℕ) {r : PageAnswer} {d o : List ℕ} → HasRoom c → EndPage c s code r d o → Empty d
emptied_at_end c s code h e = emptied_first c h e.1

-- no chunk changes the shelf
pub chunk_alone : (y c s d x : List ℕ) → Happens (chunk y ∷ []) c s d x → x ≡ s
chunk_alone y c s d x e = e.2.1

-- whatever happens between an empty collector and the end call
module _ (es : List Event) (c s d x : List ℕ) (z : Empty c) (h : Happens es c s d x) (b : Bytes (bytes_put es)) where
  holding : Holds d (bytes_put es)
  holding = subst (λ (q : List ℕ). Holds q (bytes_put es)) (sym (chunks_put es c s d x h)) (holds_chunks (chunks_of es) c [] (holds_none c z.0 z.1))

  pub as_one : (code : ℕ) {r : PageAnswer} {c' o : List ℕ} → EndPage d x code r c' o → AsOne code es s x r o
  as_one code e =
      let f = front_decides x (bytes_put es) (page_of d) b (held_alike d (bytes_put es) holding) code in
      (e.0.0 ∙ sym f.0, e.0.1 ∙ sym f.1)

  pub as_apply_control : {r : PageAnswer} {c' o : List ℕ} → EndPage d x 0x02 r c' o → ApplyControl x (bytes_put es) r o
  as_apply_control e = as_one 0x02 e

  pub as_apply_thresholds : {r : PageAnswer} {c' o : List ℕ} → EndPage d x 0x05 r c' o → ApplyThresholds x (bytes_put es) r o
  as_apply_thresholds e = as_one 0x05 e

  -- for C, the offset among what is told
  pub as_ses_apply_control : {n k : ℕ} {c' o : List ℕ} → EndPageForC d x 0x02 n c' o k → ApplyControlForC x (bytes_put es) n o k
  as_ses_apply_control e = (e.0, as_apply_control e.1, e.2, e.3)

  pub as_ses_apply_thresholds : {n k : ℕ} {c' o : List ℕ} → EndPageForC d x 0x05 n c' o k → ApplyThresholdsForC x (bytes_put es) n o k
  as_ses_apply_thresholds e = (e.0, as_apply_thresholds e.1, e.2, e.3)

  -- then the next page starts from nothing
  pub next_starts : (code : ℕ) {r : PageAnswer} {c' o : List ℕ} → EndPage d x code r c' o → Empty c'
  next_starts code e = emptied_at_end d x code holding.0 e

-- every way of cutting the same bytes comes to the same, with the shelf as it is at the end call
pub any_cut : (es es' : List Event) (c s d c' s' d' x : List ℕ) → Empty c → Happens es c s d x → Empty c' → Happens es' c' s' d' x → Bytes (bytes_put es)
    → bytes_put es ≡ bytes_put es' → (code : ℕ) {r r' : PageAnswer} {e e' o o' : List ℕ} → EndPage d x code r e o → EndPage d' x code r' e' o'
    → (r ≡ r') × (o ≡ o')
any_cut es es' c s d c' s' d' x z h z' h' b q code {r} {r'} {o = o} {o' = o'} m m' =
    meant code x (bytes_put es) r r' o o' (as_one es c s d x z h b code m)
    (subst (λ (p : List ℕ). Meant code x p r' o') (sym q) (as_one es' c' s' d' x z' h' (subst Bytes q b) code m'))

-- one page after the other through one collector
pub page_by_page : (es es' : List Event) (c s d x c' d' x' : List ℕ) → Empty c → Happens es c s d x → Bytes (bytes_put es) → (code : ℕ) {r : PageAnswer} (o : List ℕ)
    → EndPage d x code r c' o → Happens es' c' o d' x' → Bytes (bytes_put es') → (code' : ℕ) {r' : PageAnswer} {c'' o' : List ℕ}
    → EndPage d' x' code' r' c'' o' → AsOne code es s x r o × AsOne code' es' o x' r' o'
page_by_page es es' c s d x c' d' x' z h b code o e h' b' code' e' =
    (as_one es c s d x z h b code e, as_one es' c' o d' x' (next_starts es c s d x z h b code e) h' b' code' e')

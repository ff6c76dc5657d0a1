-- The decoding functions of texts, bodies and AUTH agree with the grammar.
use Rattle.std.proofs.Common.{◌≡◌, ℕ, ◌+◌, ◌-◌, ◌*◌, ◌/◌, ◌%◌, ◌^◌, ◌<◌, ◌≤◌, Bool, true, false, cond, ltb, eqb, List, ◌∷◌, ◌++◌, length, take, drop, Option, Some, None, refl, sym, ap, subst, ◌∙◌, append_assoc, arith, inl, inr}
use Rattle.std.specs.Prelude.{slice_index, ◌⊎◌}
use Rattle.std.proofs.lemmas.Bool.{ltb-false, le-ltb, eqb-true, ne_eqb}
use Rattle.std.proofs.lemmas.List.{take_at, drop_at, take-append-drop, length-append, length-take, length-drop, nil_from_length}
use Rattle.byteorder.specs.Endian.{big_bytes, big_number}
use Rattle.byteorder.specs.Numbers.{big_number-reads_back}
use Rattle.htcp_packet.specs.declared.message.Form.{Form}
use Rattle.htcp_packet.specs.declared.message.Form.TheVariants as forms
use Rattle.htcp_packet.specs.Message.{Spec, Details, Body, empty, specifier, clear, detail, cache_headers, opaque, Seal, Auth, unsigned, signed, countstr, spec_text, detail_text, IsSpec, IsDetails, BeginsWith, IsClear, HoldsBody, seal_text, IsSeal, HoldsAuth}
use Rattle.htcp_packet.specs.Reading.{◌>>=◌, countstr_at, spec_at, detail_at, body_at, seal_at, auth_at}
use Rattle.wire_octets.specs.Octets.{IsOctets}
use Rattle.wire_octets.proofs.Fields.{IsOctets-drop, IsOctets-take, field2, field4}

-- the value of a step that did not fail
pub bind_some : {A B : Type 0} (r : Option A) (f : A → Option B) (y : B) → (r >>= f) ≡ Some y → (x : A) × (r ≡ Some x) × (f x ≡ Some y)
bind_some (Some x) f y e = (x, refl, e)
bind_some None f y e = absurd cc

-- a test that did not fail
pub guard_some : {A : Type 0} (b : Bool) (x : Option A) (y : A) → cond b None x ≡ Some y → (b ≡ false) × (x ≡ Some y)
guard_some true x y e = absurd cc
guard_some false x y e = (refl, e)

chosen : {A : Type 0} (b : Bool) (x y z : A) → cond b x y ≡ z → ((b ≡ true) × (x ≡ z)) ⊎ ((b ≡ false) × (y ≡ z))
chosen true x y z e = inl (refl, e)
chosen false x y z e = inr (refl, e)

pub some_is : {A : Type 0} (x y : A) → Some x ≡ Some y → x ≡ y
some_is x y e = cc

-- what a decoding step took from the front
pub record Takes (octets text rest : List ℕ) : Type 0 where
  pub parts : octets ≡ text ++ rest
  pub rest_fits : IsOctets rest

then_takes : (a x b y c : List ℕ) → Takes a x b → Takes b y c → Takes a (x ++ y) c
then_takes a x b y c p q = record { parts = p.parts ∙ ap (λ (t : List ℕ). x ++ t) q.parts ∙ sym (append_assoc x y c); rest_fits = q.rest_fits }

-- ---- counted texts

countstr_takes : (o : List ℕ) (x : List ℕ × List ℕ) → IsOctets o → countstr_at o ≡ Some x → Takes o (countstr x.0) x.1 × (length x.0 < 2 ^ 16)
unfolding countstr_at
countstr_takes o x fits e =
    let n = big_number 2 o in
    let g = guard_some (ltb (length o) 2) _ x e in
    let h = guard_some (ltb (length (drop 2 o)) n) _ x g.1 in
    let le : 2 ≤ length o = ltb-false _ _ g.0 in
    let long : n ≤ length (drop 2 o) = ltb-false _ _ h.0 in
    let len : length (take n (drop 2 o)) ≡ n = omega (arith, length-take n (drop 2 o)) in
    let small : n < 2 ^ 16 = omega (arith, fits 0, fits 1) in
    let whole : o ≡ countstr (take n (drop 2 o)) ++ drop n (drop 2 o) = field2 0 o fits le ∙ ap (λ (t : List ℕ). big_bytes 2 n ++ t) (sym (take-append-drop n (drop 2 o))) ∙ rw len refl in
    subst (λ (y : List ℕ × List ℕ). Takes o (countstr y.0) y.1 × (length y.0 < 2 ^ 16)) (some_is _ x h.1)
    (record { parts = whole; rest_fits = IsOctets-drop n (drop 2 o) (IsOctets-drop 2 o fits) }, omega arith)

countstr_again : (t r : List ℕ) → length t < 2 ^ 16 → countstr_at (countstr t ++ r) ≡ Some (t, r)
unfolding countstr_at
countstr_again t r lt =
    let n : big_number 2 (countstr t ++ r) ≡ length t = big_number-reads_back 2 (length t) (t ++ r) lt in
    let long : ltb (length (t ++ r)) (length t) ≡ false = le-ltb _ _ (omega (arith, length-append t r)) in
    let two : ltb (length (countstr t ++ r)) 2 ≡ false = le-ltb _ _ (omega arith) in
    rw (two, n, long, take_at t r (length t) refl, drop_at t r (length t) refl) refl

-- ---- SPECIFIER and DETAIL

spec_takes : (o : List ℕ) (x : Spec × List ℕ) → IsOctets o → spec_at o ≡ Some x → Takes o (spec_text x.0) x.1 × IsSpec x.0
unfolding spec_at
spec_takes o x fits e =
    let a = bind_some (countstr_at o) (λ m. countstr_at m.1 >>= λ u. countstr_at u.1 >>= λ v. countstr_at v.1 >>= λ h. Some (record { method = m.0; uri = u.0; version = v.0; headers = h.0 }, h.1)) x e in
    let b = bind_some (countstr_at a.0.1) (λ u. countstr_at u.1 >>= λ v. countstr_at v.1 >>= λ h. Some (record { method = a.0.0; uri = u.0; version = v.0; headers = h.0 }, h.1)) x a.2 in
    let c = bind_some (countstr_at b.0.1) (λ v. countstr_at v.1 >>= λ h. Some (record { method = a.0.0; uri = b.0.0; version = v.0; headers = h.0 }, h.1)) x b.2 in
    let d = bind_some (countstr_at c.0.1) (λ h. Some (record { method = a.0.0; uri = b.0.0; version = c.0.0; headers = h.0 }, h.1)) x c.2 in
    let t0 = countstr_takes o a.0 fits a.1 in
    let t1 = countstr_takes a.0.1 b.0 t0.0.rest_fits b.1 in
    let t2 = countstr_takes b.0.1 c.0 t1.0.rest_fits c.1 in
    let t3 = countstr_takes c.0.1 d.0 t2.0.rest_fits d.1 in
    let e23 = then_takes b.0.1 (countstr c.0.0) c.0.1 (countstr d.0.0) d.0.1 t2.0 t3.0 in
    let e13 = then_takes a.0.1 (countstr b.0.0) b.0.1 (countstr c.0.0 ++ countstr d.0.0) d.0.1 t1.0 e23 in
    let e03 = then_takes o (countstr a.0.0) a.0.1 (countstr b.0.0 ++ (countstr c.0.0 ++ countstr d.0.0)) d.0.1 t0.0 e13 in
    let made : Spec × List ℕ = (record { method = a.0.0; uri = b.0.0; version = c.0.0; headers = d.0.0 }, d.0.1) in
    subst (λ (y : Spec × List ℕ). Takes o (spec_text y.0) y.1 × IsSpec y.0) {x = made} (some_is made x d.2) (e03, record { method = t0.1; uri = t1.1; version = t2.1; headers = t3.1 })

spec_again : (s : Spec) (r : List ℕ) → IsSpec s → spec_at (spec_text s ++ r) ≡ Some (s, r)
unfolding spec_at
spec_again s r fits =
    let regrouped : spec_text s ++ r ≡ countstr s.method ++ (countstr s.uri ++ (countstr s.version ++ (countstr s.headers ++ r))) =
    append_assoc (countstr s.method) (countstr s.uri ++ (countstr s.version ++ countstr s.headers)) r ∙ ap (λ (x : List ℕ). countstr s.method ++ x) (append_assoc (countstr s.uri) (countstr s.version ++ countstr s.headers) r ∙ ap (λ (x : List ℕ). countstr s.uri ++ x) (append_assoc (countstr s.version) (countstr s.headers) r)) in
    ap spec_at regrouped
    ∙ rw (countstr_again s.method (countstr s.uri ++ (countstr s.version ++ (countstr s.headers ++ r))) fits.method, countstr_again s.uri (countstr s.version ++ (countstr s.headers ++ r)) fits.uri, countstr_again s.version (countstr s.headers ++ r) fits.version, countstr_again s.headers r fits.headers) refl

detail_takes : (o : List ℕ) (x : Details × List ℕ) → IsOctets o → detail_at o ≡ Some x → Takes o (detail_text x.0) x.1 × IsDetails x.0
unfolding detail_at
detail_takes o x fits e =
    let a = bind_some (countstr_at o) (λ m. countstr_at m.1 >>= λ u. countstr_at u.1 >>= λ v. Some (record { response = m.0; entity = u.0; cache = v.0 }, v.1)) x e in
    let b = bind_some (countstr_at a.0.1) (λ u. countstr_at u.1 >>= λ v. Some (record { response = a.0.0; entity = u.0; cache = v.0 }, v.1)) x a.2 in
    let c = bind_some (countstr_at b.0.1) (λ v. Some (record { response = a.0.0; entity = b.0.0; cache = v.0 }, v.1)) x b.2 in
    let t0 = countstr_takes o a.0 fits a.1 in
    let t1 = countstr_takes a.0.1 b.0 t0.0.rest_fits b.1 in
    let t2 = countstr_takes b.0.1 c.0 t1.0.rest_fits c.1 in
    let e12 = then_takes a.0.1 (countstr b.0.0) b.0.1 (countstr c.0.0) c.0.1 t1.0 t2.0 in
    let e02 = then_takes o (countstr a.0.0) a.0.1 (countstr b.0.0 ++ countstr c.0.0) c.0.1 t0.0 e12 in
    let made : Details × List ℕ = (record { response = a.0.0; entity = b.0.0; cache = c.0.0 }, c.0.1) in
    subst (λ (y : Details × List ℕ). Takes o (detail_text y.0) y.1 × IsDetails y.0) {x = made} (some_is made x c.2) (e02, record { response = t0.1; entity = t1.1; cache = t2.1 })

detail_again : (d : Details) (r : List ℕ) → IsDetails d → detail_at (detail_text d ++ r) ≡ Some (d, r)
unfolding detail_at
detail_again d r fits =
    let regrouped : detail_text d ++ r ≡ countstr d.response ++ (countstr d.entity ++ (countstr d.cache ++ r)) =
    append_assoc (countstr d.response) (countstr d.entity ++ countstr d.cache) r ∙ ap (λ (x : List ℕ). countstr d.response ++ x) (append_assoc (countstr d.entity) (countstr d.cache) r) in
    ap detail_at regrouped
    ∙ rw (countstr_again d.response (countstr d.entity ++ (countstr d.cache ++ r)) fits.response, countstr_again d.entity (countstr d.cache ++ r) fits.entity, countstr_again d.cache r fits.cache) refl

-- ---- bodies

clear_takes : (o : List ℕ) (s : Spec) (r : List ℕ) → IsOctets o → 2 ≤ length o → Takes (drop 2 o) (spec_text s) r → IsSpec s → IsClear (slice_index o 1 % 16) s o
clear_takes o s r fits le t is =
    let n = big_number 2 o in
    record {
      reserved = n / 16;
      reserved_fits = omega (arith, fits 0, fits 1);
      reason_fits = omega arith;
      texts = is;
      begins = (r, field2 0 o fits le ∙ ap (λ (x : List ℕ). big_bytes 2 n ++ x) t.parts ∙ sym (append_assoc (big_bytes 2 n) (spec_text s) r) ∙ ap (λ (k : ℕ). (big_bytes 2 k ++ spec_text s) ++ r) (omega arith));
    }

pub body_takes : (f : Form) (o : List ℕ) (b : Body) → IsOctets o → body_at f o ≡ Some b → HoldsBody f b o
unfolding body_at
body_takes forms.Empty o b fits e = subst (λ (y : Body). HoldsBody forms.Empty y o) (some_is empty b e) tt
body_takes forms.Specifier o b fits e =
    let a = bind_some (spec_at o) (λ s. Some (specifier s.0)) b e in
    let t = spec_takes o a.0 fits a.1 in
    subst (λ (y : Body). HoldsBody forms.Specifier y o) (some_is (specifier a.0.0) b a.2) (t.1, (a.0.1, t.0.parts))
body_takes forms.Clear o b fits e =
    let g = guard_some (ltb (length o) 2) _ b e in
    let a = bind_some (spec_at (drop 2 o)) (λ s. Some (clear (slice_index o 1 % 16) s.0)) b g.1 in
    let t = spec_takes (drop 2 o) a.0 (IsOctets-drop 2 o fits) a.1 in
    subst (λ (y : Body). HoldsBody forms.Clear y o) (some_is (clear (slice_index o 1 % 16) a.0.0) b a.2) (clear_takes o a.0.0 a.0.1 fits (ltb-false _ _ g.0) t.0 t.1)
body_takes forms.Detail o b fits e =
    let a = bind_some (detail_at o) (λ d. Some (detail d.0)) b e in
    let t = detail_takes o a.0 fits a.1 in
    subst (λ (y : Body). HoldsBody forms.Detail y o) (some_is (detail a.0.0) b a.2) (t.1, (a.0.1, t.0.parts))
body_takes forms.CacheHeaders o b fits e =
    elim (chosen (eqb (length o) 0) (Some (cache_headers o)) (countstr_at o >>= λ h. Some (cache_headers h.0)) (Some b) e) [
      | inl none ↦
          let nil = nil_from_length o (eqb-true _ _ none.0) in
          subst (λ (y : Body). HoldsBody forms.CacheHeaders y o) (some_is (cache_headers o) b none.1) (inr (nil, nil))
      | inr some ↦
          let a = bind_some (countstr_at o) (λ h. Some (cache_headers h.0)) b some.1 in
          let t = countstr_takes o a.0 fits a.1 in
          subst (λ (y : Body). HoldsBody forms.CacheHeaders y o) (some_is (cache_headers a.0.0) b a.2) (inl (t.1, (a.0.1, t.0.parts)))
    ]
body_takes forms.Opaque o b fits e = subst (λ (y : Body). HoldsBody forms.Opaque y o) (some_is (opaque o) b e) refl

pub body_again : (f : Form) (b : Body) (o : List ℕ) → HoldsBody f b o → body_at f o ≡ Some b
unfolding body_at
body_again forms.Empty empty o h = refl
body_again forms.Specifier (specifier s) o h = ap (body_at forms.Specifier) h.1.1 ∙ rw (spec_again s h.1.0 h.0) refl
body_again forms.Clear (clear reason s) o h =
    let k = 16 * h.reserved + reason in
    let whole = (big_bytes 2 k ++ spec_text s) ++ h.begins.0 in
    let long : ltb (length whole) 2 ≡ false = le-ltb _ _ (omega arith) in
    let low : k % 256 % 16 ≡ reason = omega (arith, h.reason_fits) in
    ap (body_at forms.Clear) h.begins.1 ∙ rw (long, spec_again s h.begins.0 h.texts, low) refl
body_again forms.Detail (detail d) o h = ap (body_at forms.Detail) h.1.1 ∙ rw (detail_again d h.1.0 h.0) refl
body_again forms.CacheHeaders (cache_headers t) o (inl h) =
    let some : eqb (length (countstr t ++ h.1.0)) 0 ≡ false = ne_eqb _ _ (λ e. omega arith) in
    ap (body_at forms.CacheHeaders) h.1.1 ∙ rw (some, countstr_again t h.1.0 h.0) refl
body_again forms.CacheHeaders (cache_headers t) o (inr h) = rw (h.0, h.1) refl
body_again forms.Opaque (opaque all) o h = ap (λ (x : List ℕ). Some (opaque x)) h
body_again form body o h = absurd h

-- ---- authentication

seal_takes : (o : List ℕ) (a : Auth) → IsOctets o → seal_at o ≡ Some a → (s : Seal) × (a ≡ signed s) × IsSeal s × BeginsWith (seal_text s) o
unfolding seal_at
seal_takes o a fits e =
    let g = guard_some (ltb (length o) 8) _ a e in
    let le : 8 ≤ length o = ltb-false _ _ g.0 in
    let k = bind_some (countstr_at (drop 8 o)) (λ k. countstr_at k.1 >>= λ s. Some (signed (record { time = big_number 4 o; expire = big_number 4 (drop 4 o); key_name = k.0; signature = s.0 }))) a g.1 in
    let s = bind_some (countstr_at k.0.1) (λ s. Some (signed (record { time = big_number 4 o; expire = big_number 4 (drop 4 o); key_name = k.0.0; signature = s.0 }))) a k.2 in
    let t1 = countstr_takes (drop 8 o) k.0 (IsOctets-drop 8 o fits) k.1 in
    let t2 = countstr_takes k.0.1 s.0 t1.0.rest_fits s.1 in
    let texts : drop 8 o ≡ (countstr k.0.0 ++ countstr s.0.0) ++ s.0.1 = (then_takes (drop 8 o) (countstr k.0.0) k.0.1 (countstr s.0.0) s.0.1 t1.0 t2.0).parts in
    let made : Seal = record { time = big_number 4 o; expire = big_number 4 (drop 4 o); key_name = k.0.0; signature = s.0.0 } in
    let whole : o ≡ seal_text made ++ s.0.1 =
    field4 0 o fits (omega arith) ∙ ap (λ (x : List ℕ). big_bytes 4 (big_number 4 o) ++ x) (field4 4 o fits le ∙ ap (λ (x : List ℕ). big_bytes 4 (big_number 4 (drop 4 o)) ++ x) texts) in
    (made, sym (some_is (signed made) a s.2), record { time = below o fits; expire = below (drop 4 o) (IsOctets-drop 4 o fits); key_name = t1.1; signature = t2.1 }, (s.0.1, whole))
  where
    below : (o : List ℕ) → IsOctets o → big_number 4 o < 2 ^ 32
    below o fits = omega (arith, fits 0, fits 1, fits 2, fits 3)

seal_again : (s : Seal) (r : List ℕ) → IsSeal s → seal_at (seal_text s ++ r) ≡ Some (signed s)
unfolding seal_at
seal_again s r fits =
    let texts : (countstr s.key_name ++ countstr s.signature) ++ r ≡ countstr s.key_name ++ (countstr s.signature ++ r) = append_assoc (countstr s.key_name) (countstr s.signature) r in
    let regrouped : seal_text s ++ r ≡ big_bytes 4 s.time ++ (big_bytes 4 s.expire ++ (countstr s.key_name ++ (countstr s.signature ++ r))) = ap (λ (x : List ℕ). big_bytes 4 s.time ++ (big_bytes 4 s.expire ++ x)) texts in
    let rest = countstr s.key_name ++ (countstr s.signature ++ r) in
    let long : ltb (length (big_bytes 4 s.time ++ (big_bytes 4 s.expire ++ rest))) 8 ≡ false = le-ltb _ _ (omega arith) in
    ap seal_at regrouped
    ∙ rw (long, countstr_again s.key_name (countstr s.signature ++ r) fits.key_name, countstr_again s.signature r fits.signature, big_number-reads_back 4 s.time (big_bytes 4 s.expire ++ rest) fits.time, big_number-reads_back 4 s.expire rest fits.expire) refl

pub auth_takes : (o : List ℕ) (a : Auth) → IsOctets o → auth_at o ≡ Some a → HoldsAuth a o
unfolding auth_at
auth_takes o a fits e =
    let n = big_number 2 o in
    elim (chosen (eqb (length o) 0) (Some unsigned) _ (Some a) e) [
      | inl none ↦ subst (λ (y : Auth). HoldsAuth y o) (some_is unsigned a none.1) (inl (nil_from_length o (eqb-true _ _ none.0)))
      | inr some ↦
          let g = guard_some (ltb (length o) 2) _ a some.1 in
          let le : 2 ≤ length o = ltb-false _ _ g.0 in
          let front = field2 0 o fits le in
          elim (chosen (eqb n 2) (Some unsigned) _ (Some a) g.1) [
            | inl two ↦ subst (λ (y : Auth). HoldsAuth y o) (some_is unsigned a two.1) (inr (drop 2 o, front ∙ ap (λ (k : ℕ). big_bytes 2 k ++ drop 2 o) (eqb-true _ _ two.0)))
            | inr more ↦
                let h = guard_some (ltb n 2) _ a more.1 in
                let i = guard_some (ltb (length o) n) _ a h.1 in
                let low : 2 ≤ n = ltb-false _ _ h.0 in
                let high : n ≤ length o = ltb-false _ _ i.0 in
                let inside = take (n - 2) (drop 2 o) in
                let t = seal_takes inside a (IsOctets-take (n - 2) (drop 2 o) (IsOctets-drop 2 o fits)) i.1 in
                let len : length inside + 2 ≡ n = omega (arith, length-take (n - 2) (drop 2 o), length-drop 2 o) in
                let whole : o ≡ (big_bytes 2 (length inside + 2) ++ inside) ++ drop (n - 2) (drop 2 o) =
                front ∙ ap (λ (x : List ℕ). big_bytes 2 n ++ x) (sym (take-append-drop (n - 2) (drop 2 o))) ∙ sym (append_assoc (big_bytes 2 n) inside (drop (n - 2) (drop 2 o))) ∙ ap (λ (k : ℕ). (big_bytes 2 k ++ inside) ++ drop (n - 2) (drop 2 o)) (sym len) in
                subst (λ (y : Auth). HoldsAuth y o) (sym t.1) (record { inside = inside; inside_fits = omega (arith, fits 0, fits 1); seal = t.2; sealed = t.3; begins = (drop (n - 2) (drop 2 o), whole) })
          ]
    ]

pub auth_again : (a : Auth) (o : List ℕ) → HoldsAuth a o → auth_at o ≡ Some a
unfolding auth_at
auth_again unsigned o (inl none) = rw none refl
auth_again unsigned o (inr h) =
    let some : eqb (length (0 ∷ 2 ∷ h.0)) 0 ≡ false = ne_eqb _ _ (λ e. omega arith) in
    let long : ltb (length (0 ∷ 2 ∷ h.0)) 2 ≡ false = le-ltb _ _ (omega arith) in
    ap auth_at h.1 ∙ rw (some, long) refl
auth_again (signed s) o h =
    let k = length h.inside + 2 in
    let whole = (big_bytes 2 k ++ h.inside) ++ h.begins.0 in
    let more : 2 < k = omega (arith, ap length h.sealed.1) in
    let some : eqb (length whole) 0 ≡ false = ne_eqb _ _ (λ e. omega arith) in
    let long : ltb (length whole) 2 ≡ false = le-ltb _ _ (omega arith) in
    let n : big_number 2 whole ≡ k = big_number-reads_back 2 k (h.inside ++ h.begins.0) h.inside_fits in
    let not_two : eqb k 2 ≡ false = ne_eqb _ _ (λ e. omega arith) in
    let low : ltb k 2 ≡ false = le-ltb _ _ (omega arith) in
    let high : ltb (length whole) k ≡ false = le-ltb _ _ (omega (arith, length-append h.inside h.begins.0)) in
    let inside : take (k - 2) (h.inside ++ h.begins.0) ≡ h.inside = take_at h.inside h.begins.0 (k - 2) (omega arith) in
    ap auth_at h.begins.1 ∙ rw (some, long, n, not_two, low, high, inside) (ap seal_at h.sealed.1 ∙ seal_again s h.sealed.0 h.seal)

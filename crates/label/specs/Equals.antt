-- Labels are the same exactly where they are equal.
use Rattle.std.specs.Prelude.{◌≡◌, Bool, true, false, ◌&&◌, T, ℤ, pos, negsuc, refl}
use Rattle.std.proofs.Common.{sym, ap, subst, eqb→eq, eq-eqb}
use Rattle.std.specs.Ordering.{int_eq}
use Rattle.std.proofs.lemmas.Bool.Decides.{Decides-int_eq}
use Rattle.label.specs.declared.measures.Measures.{Measures}
use Rattle.label.specs.Sameness.{equal, same_measures}

pub both : (a b : Bool) → T (a && b) → T a × T b
both true b t = (tt, t)
both false b t = absurd t

pub join : (a b : Bool) → T a → T b → T (a && b)
join true b s t = t
join false b s t = s

pub equal_is : (x y : ℤ) → T (equal x y) → x ≡ y
equal_is (pos m) (pos n) t = ap pos (eqb→eq m n t)
equal_is (pos m) (negsuc n) t = absurd t
equal_is (negsuc m) (pos n) t = absurd t
equal_is (negsuc m) (negsuc n) t = ap negsuc (eqb→eq m n t)

pub same_is : (x y : Measures) → T (same_measures x y) → x ≡ y
same_is x y t =
    let a = both _ _ t in
    let b = both _ _ a.1 in
    let c = both _ _ b.1 in
    let d = both _ _ c.1 in
    let e = both _ _ d.1 in
    let ee = equal_is x.ee y.ee a.0 in
    let eb = equal_is x.eb y.eb b.0 in
    let eb2 = equal_is x.eb2 y.eb2 c.0 in
    let ec = equal_is x.ec y.ec d.0 in
    let bc = equal_is x.bc y.bc e.0 in
    let volume = equal_is x.volume y.volume e.1 in
    λ i. record { ee = ee i; eb = eb i; eb2 = eb2 i; ec = ec i; bc = bc i; volume = volume i }

equal_self : (x : ℤ) → T (equal x x)
equal_self (pos n) = rw (eq-eqb n n refl) tt
equal_self (negsuc n) = rw (eq-eqb n n refl) tt

pub same_self : (x : Measures) → T (same_measures x x)
same_self x =
    join _ _ (equal_self x.ee) (join _ _ (equal_self x.eb) (join _ _ (equal_self x.eb2)
    (join _ _ (equal_self x.ec) (join _ _ (equal_self x.bc) (equal_self x.volume)))))

true_is : (b : Bool) → T b → b ≡ true
true_is true t = refl
true_is false t = absurd t

is_true : (b : Bool) → b ≡ true → T b
is_true b e = subst (λ (z : Bool). T z) (sym e) tt

-- two answers that decide one question are one
pub decided : (r s : Bool) (P : Type 0) → (T r → P) → (P → T r) → (T s → P) → (P → T s) → r ≡ s
decided true s P f g h k = sym (true_is s (k (f tt)))
decided false true P f g h k = absurd (g (h tt))
decided false false P f g h k = refl

pub same_back : (x y : Measures) → x ≡ y → T (same_measures x y)
same_back x y e = subst (λ (z : Measures). T (same_measures x z)) e (same_self x)

-- one field compares as it is told
told : (x y : ℤ) → int_eq x y ≡ equal x y
told x y =
    decided (int_eq x y) (equal x y) (x ≡ y) (λ t. (Decides-int_eq x y).0 (true_is (int_eq x y) t)) (λ e. is_true (int_eq x y) ((Decides-int_eq x y).1 e)) (equal_is x y)
    (λ e. subst (λ (z : ℤ). T (equal x z)) e (equal_self x))

-- what the comparison of all fields answers is whether the labels are the same
pub compared : (x y : Measures) →
    (int_eq x.ee y.ee && (int_eq x.eb y.eb && (int_eq x.eb2 y.eb2
    && (int_eq x.ec y.ec && (int_eq x.bc y.bc && int_eq x.volume y.volume))))) ≡ same_measures x y
compared x y = λ i. told x.ee y.ee i && (told x.eb y.eb i && (told x.eb2 y.eb2 i && (told x.ec y.ec i && (told x.bc y.bc i && told x.volume y.volume i))))

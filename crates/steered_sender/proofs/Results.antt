-- What holds where a result is one of both.
use Rattle.std.proofs.Common.{◌≡◌, Result, Ok, Err, IfOk, IfErr, OnOk, OnErr, is_err, false, refl, subst}

pub by-result : {R E : Type 0} (A : Type 0) (o : Result R E) → ((r : R) → o ≡ Ok r → A) → ((e : E) → o ≡ Err e → A) → A
by-result A (Ok r) ok err = ok r refl
by-result A (Err e) ok err = err e refl

pub at-ok : {R E : Type 0} (P : R → Type 0) (o : Result R E) (r : R) → o ≡ Ok r → IfOk o P → P r
at-ok {R} {E} P o r is h = subst (λ (x : Result R E). IfOk x P) is h

pub at-err : {R E : Type 0} (P : E → Type 0) (o : Result R E) (e : E) → o ≡ Err e → IfErr o P → P e
at-err {R} {E} P o e is h = subst (λ (x : Result R E). IfErr x P) is h

pub on-ok : {R E : Type 0} (A : Type 0) (o : Result R E) (r : R) → o ≡ Ok r → OnOk o A → A
on-ok {R} {E} A o r is h = subst (λ (x : Result R E). OnOk x A) is h

pub on-err : {R E : Type 0} (A : Type 0) (o : Result R E) (e : E) → o ≡ Err e → OnErr o A → A
on-err {R} {E} A o e is h = subst (λ (x : Result R E). OnErr x A) is h

pub both-ok : {R E : Type 0} (P Q S : R → Type 0) (o : Result R E) → IfOk o P → IfOk o Q → ((r : R) → P r → Q r → S r) → IfOk o S
both-ok P Q S (Ok r) p q f = f r p q
both-ok P Q S (Err e) p q f = tt

pub unless-err : {R E : Type 0} (A : Type 0) (o : Result R E) → is_err o ≡ false → OnOk o A → A
unless-err A (Ok r) fine h = h
unless-err A (Err e) fine h = absurd cc

pub ok-so : {R E : Type 0} (A B : Type 0) (o : Result R E) → OnOk o A → (A → B) → OnOk o B
ok-so A B (Ok r) h f = f h
ok-so A B (Err e) h f = tt

pub if-ok-so : {R E : Type 0} (P Q : R → Type 0) (o : Result R E) → IfOk o P → ((r : R) → P r → Q r) → IfOk o Q
if-ok-so P Q (Ok r) h f = f r h
if-ok-so P Q (Err e) h f = tt

pub if-err-so : {R E : Type 0} (P Q : E → Type 0) (o : Result R E) → IfErr o P → ((e : E) → P e → Q e) → IfErr o Q
if-err-so P Q (Ok r) h f = tt
if-err-so P Q (Err e) h f = f e h

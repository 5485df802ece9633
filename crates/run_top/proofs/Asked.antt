-- A command is read just where the words ask for it.
use Rattle.std.proofs.Common.{◌≡◌, ℕ, zero, suc, ◌≤◌, ◌==◌, Bool, true, false, ◌&&◌, cond, nat_eq, nat_le, List, [], ◌∷◌, ◌++◌, length, take, drop, append_assoc, length-append, Option, None, Some, inl, inr, ◌⊎◌, refl, sym, ap, subst, ◌∙◌, arith}
use Rattle.std.specs.Prelude.{codes, ◌≢◌}
use Rattle.std.specs.Str.{bytes_eq}
use Rattle.std.specs.Cmp.Lexicographic.{pointwise}
use Rattle.std.proofs.lemmas.Bool.Decides.{nat_tests}
use Rattle.std.proofs.lemmas.Bool.{and_parts, and_from, leb-true, le-leb, false_from_ne_true}
use Rattle.std.proofs.lemmas.List.{take-append-drop, append-nil, take_at, drop_at}
use Rattle.std.proofs.lemmas.Slice.Eq.{bytes_eq-Decides}
use Rattle.gcc_units.specs.Listed.{Listed}
use Rattle.gcc_units.specs.declared.limits.TheConstants.{MOST_ACTORS, MOST_LINES, LEAST_RATE, GREATEST_RATE}
use Rattle.call_trace.specs.Fields.{number_of}
use Rattle.link_path.specs.declared.TheConstants.{LEAST_QUEUE, GREATEST_QUEUE, LONGEST_DELAY}
use Rattle.link_path.specs.declared.link.LinkSettings.{LinkSettings}
use Rattle.link_path.specs.KeptLink.{IsLink}
use Rattle.link_loop.specs.declared.TheConstants.{MOST_MILLIS}
use Rattle.nack_rtx.specs.declared.resender.RtxSettings.{RtxSettings}
use Rattle.resending.specs.declared.serving.TheConstants.{MOST_REPEATS}
use Rattle.run_top.specs.declared.words.TheConstants.{GREATEST_SSRC, GREATEST_PAYLOAD}
use Rattle.run_top.specs.declared.words.Command.{Command}
use Rattle.run_top.specs.declared.words.Command.TheVariants as command
use Rattle.run_top.specs.declared.options.Name.{Name}
use Rattle.run_top.specs.declared.options.Name.TheVariants as name
use Rattle.run_top.specs.declared.options.Given.{Given}
use Rattle.run_top.specs.Words.{◌>>=◌, is_text, name_text, given, stripped, in_two, in_one, option_of, or_else, names, Taken, option_among, option_at, options_at, number_for, within, alone, make_at, demo_at, link_settings, settings_in, loop_at, apart, rtx_settings, rtx_in, resend_at, command_of, IsFromTo, IsAllowed}
use Rattle.run_top.specs.Asking.{texts, IsOption, AreOptions, HaveOptions, Asks}
use Rattle.run_top.proofs.Decimals.{number_is, is_number}
use Rattle.run_top.proofs.InOrder.{cond_some, name_is_same, as_many, AreApart, AreFound, find_all, in_order}

abbrev Words : Type 0
Words = List (Listed ℕ)

abbrev Word : Type 0
Word = Listed ℕ

-- the word of these bytes
abbrev word_of : List ℕ → ℕ → Word
word_of bytes spare = record { items = bytes; spare = spare }

-- the options of a command
abbrev make_options : ℕ → ℕ → ℕ → List Given
make_options seed calls actors = given name.Seed seed ∷ given name.Calls calls ∷ given name.Actors actors ∷ []

abbrev demo_options : ℕ → ℕ → List Given
demo_options seed calls = given name.Seed seed ∷ given name.Calls calls ∷ []

abbrev loop_options : LinkSettings → ℕ → List Given
loop_options s millis = given name.Rate s.rate ∷ given name.Queue s.queue ∷ given name.Delay s.delay ∷ given name.Millis millis ∷ []

abbrev resend_options : RtxSettings → List Given
resend_options s = given name.Media s.media ∷ given name.Rtx s.rtx ∷ given name.Payload s.payload ∷ given name.Repeats s.repeats ∷ []

make_apart : (seed calls actors : ℕ) → AreApart (make_options seed calls actors)
make_apart seed calls actors = ((refl, (refl, tt)), ((refl, tt), (tt, tt)))

demo_apart : (seed calls : ℕ) → AreApart (demo_options seed calls)
demo_apart seed calls = ((refl, tt), (tt, tt))

loop_apart : (s : LinkSettings) (millis : ℕ) → AreApart (loop_options s millis)
loop_apart s millis = ((refl, (refl, (refl, tt))), ((refl, (refl, tt)), ((refl, tt), (tt, tt))))

resend_apart : (s : RtxSettings) → AreApart (resend_options s)
resend_apart s = ((refl, (refl, (refl, tt))), ((refl, (refl, tt)), ((refl, tt), (tt, tt))))

then_some : {A B : Type 0} (o : Option A) (f : A → Option B) (y : B) → (o >>= f) ≡ Some y → (x : A) × (o ≡ Some x) × (f x ≡ Some y)
then_some None f y e = absurd cc
then_some (Some x) f y e = (x, refl, e)

else_some : {A : Type 0} (a b : Option A) (x : A) → or_else a b ≡ Some x → (a ≡ Some x) ⊎ (b ≡ Some x)
else_some None b x e = inr e
else_some (Some y) b x e = inl e

some_is : {A : Type 0} (x y : A) → Some x ≡ Some y → x ≡ y
some_is x y e = cc

-- ---- what is read is asked for

stripped_is : (front bytes rest : List ℕ) → stripped front bytes ≡ Some rest → bytes ≡ front ++ rest
stripped_is front bytes rest e =
    elim (cond_some (pointwise nat_eq (take (length front) bytes) front) (Some (drop (length front) bytes)) None rest e) [
      | inl here ↦
          sym (take-append-drop (length front) bytes)
          ∙ (ap (λ xs. xs ++ drop (length front) bytes) ((bytes_eq-Decides (take (length front) bytes) front).0 here.0)
          ∙ ap (λ xs. front ++ xs) (some_is (drop (length front) bytes) rest here.1))
      | inr other ↦ absurd (let no : None ≡ Some rest = other.1 in cc)
    ]

-- words begin with an option, and what stands behind it is left
abbrev Took : Words → Given → Words → Type 0
Took words option rest = (first : List (List ℕ)) × (texts words ≡ first ++ texts rest) × IsOption first option

two_is : (n : Name) (word : Word) (words rest : Words) (option : Given) → word.items ≡ name_text n → in_two n words ≡ Some (option, rest) → Took (word ∷ words) option rest
two_is n word [] rest option named e = absurd cc
two_is n word (w ∷ ws) rest option named e =
    let b = then_some (number_of w.items) (λ number. Some (given n number, ws)) (option, rest) e in
    let same : (given n b.0, ws) ≡ (option, rest) = some_is (given n b.0, ws) (option, rest) b.2 in
    subst (λ (t : Given × Words). Took (word ∷ w ∷ ws) t.0 t.1) same
    (word.items ∷ w.items ∷ [], refl, (w.items, number_is w.items b.0 b.1, inl (ap (λ x. x ∷ w.items ∷ []) named)))

one_is : (n : Name) (word : Word) (words rest : Words) (option : Given) → in_one n word words ≡ Some (option, rest) → Took (word ∷ words) option rest
one_is n word words rest option e =
    let text = then_some (stripped (name_text n) word.items) (λ text. stripped (codes "=") text >>= (λ digits. number_of digits >>= (λ number. Some (given n number, words)))) (option, rest) e in
    let digits = then_some (stripped (codes "=") text.0) (λ digits. number_of digits >>= (λ number. Some (given n number, words))) (option, rest) text.2 in
    let b = then_some (number_of digits.0) (λ number. Some (given n number, words)) (option, rest) digits.2 in
    let same : (given n b.0, words) ≡ (option, rest) = some_is (given n b.0, words) (option, rest) b.2 in
    let spelled : word.items ≡ name_text n ++ codes "=" ++ digits.0 =
    stripped_is (name_text n) word.items text.0 text.1
    ∙ (ap (λ xs. name_text n ++ xs) (stripped_is (codes "=") text.0 digits.0 digits.1) ∙ sym (append_assoc (name_text n) (codes "=") digits.0)) in
    subst (λ (t : Given × Words). Took (word ∷ words) t.0 t.1) same
    (word.items ∷ [], refl, (digits.0, number_is digits.0 b.0 b.1, inr (ap (λ x. x ∷ []) spelled)))

option_is : (n : Name) (words rest : Words) (option : Given) → option_of n words ≡ Some (option, rest) → Took words option rest
option_is n [] rest option e = absurd cc
option_is n (word ∷ words) rest option e =
    elim (cond_some (is_text word (name_text n)) (in_two n words) (in_one n word words) (option, rest) e) [
      | inl two ↦ two_is n word words rest option ((bytes_eq-Decides word.items (name_text n)).0 two.0) two.1
      | inr one ↦ one_is n word words rest option one.1
    ]

among : (ns : List Name) (words rest : Words) (option : Given) → option_among ns words ≡ Some (option, rest) → Took words option rest
among [] words rest option e = absurd cc
among (n ∷ ns) words rest option e =
    elim (else_some (option_of n words) (option_among ns words) (option, rest) e) [
      | inl this ↦ option_is n words rest option this
      | inr later ↦ among ns words rest option later
    ]

any_option_is : (words rest : Words) (option : Given) → option_at words ≡ Some (option, rest) → Took words option rest
unfolding option_at
any_option_is words rest option e = among names words rest option e

options_are : (n : ℕ) (words : Words) (options : List Given) → options_at n words ≡ Some options → AreOptions (texts words) options × (length options ≡ n)
options_are zero [] options e =
    let none : [] ≡ options = some_is [] options e in
    subst (λ os. AreOptions [] os × (length os ≡ zero)) none (refl, refl)
options_are zero (word ∷ words) options e = absurd cc
options_are (suc n) words options e =
    let taken = then_some (option_at words) (λ taken. options_at n taken.1 >>= (λ others. Some (taken.0 ∷ others))) options e in
    let others = then_some (options_at n taken.0.1) (λ others. Some (taken.0.0 ∷ others)) options taken.2 in
    let took = any_option_is words taken.0.1 taken.0.0 taken.1 in
    let more = options_are n taken.0.1 others.0 others.1 in
    subst (λ os. AreOptions (texts words) os × (length os ≡ suc n)) (some_is (taken.0.0 ∷ others.0) options others.2)
    ((took.0, texts taken.0.1, took.1, took.2, more.0), omega (arith, more.1))

-- the options of these names were read, and no more
have : (wanted : List Given) (words : Words) (options : List Given) → AreApart wanted → options_at (length wanted) words ≡ Some options → AreFound wanted options
    → HaveOptions (texts words) wanted
have wanted words options apart read found =
    let are = options_are (length wanted) words options read in
    (options, are.0, in_order wanted options apart found are.1)

within_is : (least most n m : ℕ) → within least most n ≡ Some m → (n ≡ m) × IsFromTo least most m
within_is least most n m e =
    elim (cond_some (nat_le least n && nat_le n most) (Some n) None m e) [
      | inl within ↦
          let both = and_parts (nat_le least n) (nat_le n most) within.0 in
          let same = some_is n m within.1 in
          (same, subst (IsFromTo least most) same (leb-true least n both.0, leb-true n most both.1))
      | inr other ↦ absurd (let no : None ≡ Some m = other.1 in cc)
    ]

number_within : (least most : ℕ) (o : Option ℕ) (m : ℕ) → (o >>= within least most) ≡ Some m → (o ≡ Some m) × IsFromTo least most m
number_within least most o m e =
    let b = then_some o (within least most) m e in
    let is = within_is least most b.0 m b.2 in
    (b.1 ∙ ap (λ (n : ℕ). Some n) is.0, is.1)

alone_is : (asked : Command) (words : Words) (c : Command) → alone asked words ≡ Some c → (words ≡ []) × (asked ≡ c)
alone_is asked [] c e = (refl, some_is asked c e)
alone_is asked (word ∷ words) c e = absurd cc

alone_asks : (asked : Command) (title : List ℕ) (word : Word) (words : Words) (c : Command) → word.items ≡ title → alone asked words ≡ Some c
    → Asks (title ∷ []) asked → Asks (texts (word ∷ words)) c
alone_asks asked title word words c titled e asks =
    let a = alone_is asked words c e in
    subst (Asks (texts (word ∷ words))) a.1
    (subst (λ ts. Asks ts asked) (ap (λ t. t ∷ []) (sym titled) ∙ ap (λ (ws : Words). word.items ∷ texts ws) (sym a.0)) asks)

make_is : (word : Word) (words : Words) (c : Command) → word.items ≡ codes "make" → make_at words ≡ Some c → Asks (texts (word ∷ words)) c
unfolding make_at
make_is word words c titled e =
    let options = then_some (options_at 3 words) _ c e in
    let seed = then_some (number_for name.Seed options.0) _ c options.2 in
    let calls = then_some (number_for name.Calls options.0 >>= within 1 MOST_LINES) _ c seed.2 in
    let actors = then_some (number_for name.Actors options.0 >>= within 1 MOST_ACTORS) _ c calls.2 in
    let few = number_within 1 MOST_LINES (number_for name.Calls options.0) calls.0 calls.1 in
    let few_actors = number_within 1 MOST_ACTORS (number_for name.Actors options.0) actors.0 actors.1 in
    let read = have (make_options seed.0 calls.0 actors.0) words options.0 (make_apart seed.0 calls.0 actors.0) options.1 (seed.1, (few.0, (few_actors.0, tt))) in
    subst (Asks (texts (word ∷ words))) (some_is _ c actors.2)
    (texts words, ap (λ t. t ∷ texts words) titled, read, few.1, few_actors.1)

demo_is : (word : Word) (words : Words) (c : Command) → word.items ≡ codes "demo" → demo_at words ≡ Some c → Asks (texts (word ∷ words)) c
unfolding demo_at
demo_is word words c titled e =
    let options = then_some (options_at 2 words) _ c e in
    let seed = then_some (number_for name.Seed options.0) _ c options.2 in
    let calls = then_some (number_for name.Calls options.0 >>= within 1 MOST_LINES) _ c seed.2 in
    let few = number_within 1 MOST_LINES (number_for name.Calls options.0) calls.0 calls.1 in
    let read = have (demo_options seed.0 calls.0) words options.0 (demo_apart seed.0 calls.0) options.1 (seed.1, (few.0, tt)) in
    subst (Asks (texts (word ∷ words))) (some_is _ c calls.2) (texts words, ap (λ t. t ∷ texts words) titled, read, few.1)

-- the settings that were read, and that a link may have
settings_are : (options : List Given) (s : LinkSettings) → settings_in options ≡ Some s
    → (number_for name.Rate options ≡ Some s.rate) × (number_for name.Queue options ≡ Some s.queue) × (number_for name.Delay options ≡ Some s.delay) × IsLink s
settings_are options s e =
    let rate = then_some (number_for name.Rate options >>= within LEAST_RATE GREATEST_RATE) _ s e in
    let queue = then_some (number_for name.Queue options >>= within LEAST_QUEUE GREATEST_QUEUE) _ s rate.2 in
    let delay = then_some (number_for name.Delay options >>= within 0 LONGEST_DELAY) _ s queue.2 in
    let rates = number_within LEAST_RATE GREATEST_RATE (number_for name.Rate options) rate.0 rate.1 in
    let queues = number_within LEAST_QUEUE GREATEST_QUEUE (number_for name.Queue options) queue.0 queue.1 in
    let delays = number_within 0 LONGEST_DELAY (number_for name.Delay options) delay.0 delay.1 in
    subst (λ (l : LinkSettings). (number_for name.Rate options ≡ Some l.rate) × (number_for name.Queue options ≡ Some l.queue) × (number_for name.Delay options ≡ Some l.delay) × IsLink l)
    (some_is (link_settings rate.0 queue.0 delay.0) s delay.2) (
      rates.0,
      queues.0,
      delays.0,
      record {
        least_rate = rates.1.0;
        greatest_rate = rates.1.1;
        least_queue = queues.1.0;
        greatest_queue = queues.1.1;
        longest_delay = delays.1.1;
      },
    )

loop_is : (word : Word) (words : Words) (c : Command) → word.items ≡ codes "loop" → loop_at words ≡ Some c → Asks (texts (word ∷ words)) c
unfolding loop_at
loop_is word words c titled e =
    let options = then_some (options_at 4 words) _ c e in
    let settings = then_some (settings_in options.0) _ c options.2 in
    let millis = then_some (number_for name.Millis options.0 >>= within 1 MOST_MILLIS) _ c settings.2 in
    let are = settings_are options.0 settings.0 settings.1 in
    let few = number_within 1 MOST_MILLIS (number_for name.Millis options.0) millis.0 millis.1 in
    let read = have (loop_options settings.0 millis.0) words options.0 (loop_apart settings.0 millis.0) options.1 (are.0, (are.1, (are.2, (few.0, tt)))) in
    subst (Asks (texts (word ∷ words))) (some_is _ c millis.2)
    (texts words, ap (λ t. t ∷ texts words) titled, read, are.3, few.1)

-- the settings that were read, and that are allowed
abbrev AreRtx : List Given → RtxSettings → Type 0
AreRtx options s =
    (number_for name.Media options ≡ Some s.media) × (number_for name.Rtx options ≡ Some s.rtx) × (number_for name.Payload options ≡ Some s.payload)
    × (number_for name.Repeats options ≡ Some s.repeats) × IsAllowed s

apart_is : (s t : RtxSettings) → apart s ≡ Some t → (s.media ≢ s.rtx) × (s ≡ t)
apart_is s t e = by (s.media == s.rtx) refl e
  where
    by : (b : Bool) → (s.media == s.rtx) ≡ b → cond b None (Some s) ≡ Some t → (s.media ≢ s.rtx) × (s ≡ t)
    by true same e = absurd cc
    by false other e = (λ same. grind (arith, nat_tests, other, same), some_is s t e)

rtx_are : (options : List Given) (s : RtxSettings) → rtx_in options ≡ Some s → AreRtx options s
unfolding rtx_in
rtx_are options s e =
    let media = then_some (number_for name.Media options >>= within 0 GREATEST_SSRC) _ s e in
    let rtx = then_some (number_for name.Rtx options >>= within 0 GREATEST_SSRC) _ s media.2 in
    let payload = then_some (number_for name.Payload options >>= within 0 GREATEST_PAYLOAD) _ s rtx.2 in
    let repeats = then_some (number_for name.Repeats options >>= within 1 MOST_REPEATS) _ s payload.2 in
    let medias = number_within 0 GREATEST_SSRC (number_for name.Media options) media.0 media.1 in
    let rtxs = number_within 0 GREATEST_SSRC (number_for name.Rtx options) rtx.0 rtx.1 in
    let payloads = number_within 0 GREATEST_PAYLOAD (number_for name.Payload options) payload.0 payload.1 in
    let few = number_within 1 MOST_REPEATS (number_for name.Repeats options) repeats.0 repeats.1 in
    let own = apart_is (rtx_settings media.0 rtx.0 payload.0 repeats.0) s repeats.2 in
    subst (AreRtx options) own.1 (
      medias.0,
      rtxs.0,
      payloads.0,
      few.0,
      record {
        media = medias.1.1;
        rtx = rtxs.1.1;
        apart = own.0;
        payload = payloads.1.1;
        some = few.1.0;
        few = few.1.1;
      },
    )

resend_is : (word : Word) (words : Words) (c : Command) → word.items ≡ codes "resend" → resend_at words ≡ Some c → Asks (texts (word ∷ words)) c
unfolding resend_at
resend_is word words c titled e =
    let options = then_some (options_at 4 words) _ c e in
    let settings = then_some (rtx_in options.0) _ c options.2 in
    let are = rtx_are options.0 settings.0 settings.1 in
    let read = have (resend_options settings.0) words options.0 (resend_apart settings.0) options.1 (are.0, (are.1, (are.2, (are.3, tt)))) in
    subst (Asks (texts (word ∷ words))) (some_is _ c settings.2)
    (texts words, ap (λ t. t ∷ texts words) titled, read, are.4)

titled : (word : Word) (title : List ℕ) → is_text word title ≡ true → word.items ≡ title
titled word title e = (bytes_eq-Decides word.items title).0 e

pub asks : (words : Words) (c : Command) → command_of words ≡ Some c → Asks (texts words) c
unfolding command_of
asks [] c e = absurd cc
asks (word ∷ words) c e =
    elim (cond_some (is_text word (codes "replay")) (alone command.Replay words) _ c e) [
      | inl a ↦ alone_asks command.Replay (codes "replay") word words c (titled word (codes "replay") a.0) a.1 refl
      | inr b ↦ elim (cond_some (is_text word (codes "race")) (alone command.Race words) _ c b.1) [
        | inl a ↦ alone_asks command.Race (codes "race") word words c (titled word (codes "race") a.0) a.1 refl
        | inr d ↦ elim (cond_some (is_text word (codes "check")) (alone command.Check words) _ c d.1) [
          | inl a ↦ alone_asks command.Check (codes "check") word words c (titled word (codes "check") a.0) a.1 refl
          | inr f ↦ elim (cond_some (is_text word (codes "compare")) (alone command.Compare words) _ c f.1) [
            | inl a ↦ alone_asks command.Compare (codes "compare") word words c (titled word (codes "compare") a.0) a.1 refl
            | inr k ↦ elim (cond_some (is_text word (codes "make")) (make_at words) _ c k.1) [
              | inl a ↦ make_is word words c (titled word (codes "make") a.0) a.1
              | inr g ↦ elim (cond_some (is_text word (codes "demo")) (demo_at words) _ c g.1) [
                | inl a ↦ demo_is word words c (titled word (codes "demo") a.0) a.1
                | inr h ↦ elim (cond_some (is_text word (codes "loop")) (loop_at words) _ c h.1) [
                  | inl a ↦ loop_is word words c (titled word (codes "loop") a.0) a.1
                  | inr l ↦ elim (cond_some (is_text word (codes "resend")) (resend_at words) None c l.1) [
                    | inl a ↦ resend_is word words c (titled word (codes "resend") a.0) a.1
                    | inr m ↦ absurd (let no : None ≡ Some c = m.1 in cc)
                  ]
                ]
              ]
            ]
          ]
        ]
      ]
    ]

-- ---- what is asked for is read

abbrev taken_as : Name → Words → ℕ → Option (Given × Words)
taken_as n words number = Some (given n number, words)

-- words that begin with a name's text begin with no option of a name before it in the table
passed : (n : Name) (tail : List ℕ) (k : ℕ) (words : Words)
    → (later : Option Taken) × (option_at (word_of (name_text n ++ tail) k ∷ words) ≡ or_else (option_of n (word_of (name_text n ++ tail) k ∷ words)) later)
unfolding option_at
passed name.Seed tail k words = (_, refl)
passed name.Calls tail k words = (_, refl)
passed name.Actors tail k words = (_, refl)
passed name.Rate tail k words = (_, refl)
passed name.Queue tail k words = (_, refl)
passed name.Delay tail k words = (_, refl)
passed name.Millis tail k words = (_, refl)
passed name.Media tail k words = (_, refl)
passed name.Rtx tail k words = (_, refl)
passed name.Payload tail k words = (_, refl)
passed name.Repeats tail k words = (_, refl)

take_it : (n : Name) (tail : List ℕ) (k : ℕ) (words : Words) (taken : Taken) → option_of n (word_of (name_text n ++ tail) k ∷ words) ≡ Some taken
    → option_at (word_of (name_text n ++ tail) k ∷ words) ≡ Some taken
take_it n tail k words taken e = let at = passed n tail k words in at.1 ∙ ap (λ o. or_else o at.0) e

-- the words behind those of an option
take_two : (n : Name) (k : ℕ) (word : Word) (words : Words) (m : ℕ) → number_of word.items ≡ Some m
    → option_at (word_of (name_text n) k ∷ word ∷ words) ≡ Some (given n m, words)
take_two n k word words m e =
    let named : is_text (word_of (name_text n) k) (name_text n) ≡ true = name_is_same n in
    let read : option_of n (word_of (name_text n) k ∷ word ∷ words) ≡ Some (given n m, words) =
    ap (λ b. cond b (in_two n (word ∷ words)) (in_one n (word_of (name_text n) k) (word ∷ words))) named ∙ ap (λ o. o >>= taken_as n words) e in
    subst (λ t. option_of n (word_of t k ∷ word ∷ words) ≡ Some (given n m, words) → option_at (word_of t k ∷ word ∷ words) ≡ Some (given n m, words))
    (append-nil (name_text n)) (take_it n [] k (word ∷ words) (given n m, words)) read

front_stripped : (front rest : List ℕ) → stripped front (front ++ rest) ≡ Some rest
front_stripped front rest =
    let begins : pointwise nat_eq (take (length front) (front ++ rest)) front ≡ true =
    (bytes_eq-Decides (take (length front) (front ++ rest)) front).1 (take_at front rest (length front) refl) in
    ap (λ b. cond b (Some (drop (length front) (front ++ rest))) None) begins ∙ ap (λ xs. Some xs) (drop_at front rest (length front) refl)

longer : (front rest : List ℕ) → 1 ≤ length rest → bytes_eq (front ++ rest) front ≡ false
longer front rest some =
    false_from_ne_true (bytes_eq (front ++ rest) front) (λ e.
    let same : length (front ++ rest) ≡ length front = ap length ((bytes_eq-Decides (front ++ rest) front).0 e) in omega (arith, same, length-append front rest))

take_one : (n : Name) (k : ℕ) (digits : List ℕ) (words : Words) (m : ℕ) → number_of digits ≡ Some m
    → option_at (word_of (name_text n ++ codes "=" ++ digits) k ∷ words) ≡ Some (given n m, words)
take_one n k digits words m e =
    let text = name_text n ++ (codes "=" ++ digits) in
    let other : is_text (word_of text k) (name_text n) ≡ false = longer (name_text n) (codes "=" ++ digits) (omega arith) in
    let name = ap (λ (o : Option (List ℕ)). o >>= (λ text. stripped (codes "=") text >>= (λ digits. number_of digits >>= taken_as n words))) (front_stripped (name_text n) (codes "=" ++ digits)) in
    let sign = ap (λ (o : Option (List ℕ)). o >>= (λ digits. number_of digits >>= taken_as n words)) (front_stripped (codes "=") digits) in
    subst (λ t. option_at (word_of t k ∷ words) ≡ Some (given n m, words)) (sym (append_assoc (name_text n) (codes "=") digits))
    (take_it n (codes "=" ++ digits) k words (given n m, words)
    (ap (λ b. cond b (in_two n words) (in_one n (word_of text k) words)) other ∙ (name ∙ (sign ∙ ap (λ o. o >>= taken_as n words) e))))

abbrev Begins : Words → Given → List (List ℕ) → Type 0
Begins words option rest = (left : Words) × (texts left ≡ rest) × (option_at words ≡ Some (option, left))

begins_two : (words : Words) (n : Name) (m : ℕ) (number : List ℕ) (rest : List (List ℕ)) → texts words ≡ name_text n ∷ number ∷ rest → number_of number ≡ Some m
    → Begins words (given n m) rest
begins_two [] n m number rest is e = absurd cc
begins_two (w ∷ []) n m number rest is e = absurd (let no : w.items ∷ [] ≡ name_text n ∷ number ∷ rest = is in cc)
begins_two (w ∷ v ∷ ws) n m number rest is e =
    let first : w.items ≡ name_text n = cc in
    let second : v.items ≡ number = cc in
    let behind : texts ws ≡ rest = cc in (
      ws,
      behind,
      subst (λ t. option_at (word_of t w.spare ∷ v ∷ ws) ≡ Some (given n m, ws)) (sym first)
          (take_two n w.spare v ws m (ap number_of second ∙ e)),
    )

begins_one : (words : Words) (n : Name) (m : ℕ) (number : List ℕ) (rest : List (List ℕ)) → texts words ≡ (name_text n ++ codes "=" ++ number) ∷ rest → number_of number ≡ Some m
    → Begins words (given n m) rest
begins_one [] n m number rest is e = absurd (let no : [] ≡ (name_text n ++ codes "=" ++ number) ∷ rest = is in cc)
begins_one (w ∷ ws) n m number rest is e =
    let first : w.items ≡ name_text n ++ codes "=" ++ number = cc in
    let behind : texts ws ≡ rest = cc in
    (ws, behind, subst (λ t. option_at (word_of t w.spare ∷ ws) ≡ Some (given n m, ws)) (sym first) (take_one n w.spare number ws m e))

begins : (words : Words) (option : Given) (first rest : List (List ℕ)) → texts words ≡ first ++ rest → IsOption first option → Begins words option rest
begins words option first rest is (number, value, spelled) =
    elim spelled [
      | inl two ↦ begins_two words option.name option.number number rest (is ∙ ap (λ xs. xs ++ rest) two) (is_number number option.number value)
      | inr one ↦ begins_one words option.name option.number number rest (is ∙ ap (λ xs. xs ++ rest) one) (is_number number option.number value)
    ]

no_words : (words : Words) → texts words ≡ [] → words ≡ []
no_words [] is = refl
no_words (w ∷ ws) is = absurd (let no : w.items ∷ texts ws ≡ [] = is in cc)

take_all : (words : Words) (options : List Given) → AreOptions (texts words) options → options_at (length options) words ≡ Some options
take_all words [] is = ap (options_at 0) (no_words words is)
take_all words (option ∷ options) is =
    let one = begins words option is.0 is.1 is.2 is.3 in
    let others : options_at (length options) one.0 ≡ Some options = take_all one.0 options (subst (λ ts. AreOptions ts options) (sym one.1) is.4) in
    ap (λ o. o >>= (λ taken. options_at (length options) taken.1 >>= (λ more. Some (taken.0 ∷ more)))) one.2
    ∙ ap (λ o. o >>= (λ more. Some (option ∷ more))) others

-- words that have these options: they are read, and each number is found
had : (wanted : List Given) (words : Words) → AreApart wanted → HaveOptions (texts words) wanted
    → (options : List Given) × (options_at (length wanted) words ≡ Some options) × AreFound wanted options
had wanted words apart (options, are, ordered) = (
  options,
  subst (λ n. options_at n words ≡ Some options) (as_many wanted options ordered) (take_all words options are),
  find_all wanted options apart ordered,
)

within_gives : (least most m : ℕ) (o : Option ℕ) → o ≡ Some m → IsFromTo least most m → (o >>= within least most) ≡ Some m
within_gives least most m o e from_to =
    ap (λ o. o >>= within least most) e
    ∙ ap (λ b. cond b (Some m) None) (and_from (nat_le least m) (nat_le m most) (le-leb least m from_to.0) (le-leb m most from_to.1))

make_read : (words : Words) (seed calls actors : ℕ) → HaveOptions (texts words) (make_options seed calls actors)
    → IsFromTo 1 MOST_LINES calls → IsFromTo 1 MOST_ACTORS actors → make_at words ≡ Some (command.Make seed calls actors)
unfolding make_at
make_read words seed calls actors has few few_actors =
    let (options, read, (seed_is, (calls_is, (actors_is, _)))) = had (make_options seed calls actors) words (make_apart seed calls actors) has in
    let calls_in : (number_for name.Calls options >>= within 1 MOST_LINES) ≡ Some calls = within_gives 1 MOST_LINES calls (number_for name.Calls options) calls_is few in
    let actors_in : (number_for name.Actors options >>= within 1 MOST_ACTORS) ≡ Some actors = within_gives 1 MOST_ACTORS actors (number_for name.Actors options) actors_is few_actors in
    rw (read, seed_is, calls_in, actors_in)

demo_read : (words : Words) (seed calls : ℕ) → HaveOptions (texts words) (demo_options seed calls)
    → IsFromTo 1 MOST_LINES calls → demo_at words ≡ Some (command.Demo seed calls)
unfolding demo_at
demo_read words seed calls has few =
    let (options, read, (seed_is, (calls_is, _))) = had (demo_options seed calls) words (demo_apart seed calls) has in
    let calls_in : (number_for name.Calls options >>= within 1 MOST_LINES) ≡ Some calls = within_gives 1 MOST_LINES calls (number_for name.Calls options) calls_is few in
    rw (read, seed_is, calls_in)

loop_read : (words : Words) (s : LinkSettings) (millis : ℕ) → HaveOptions (texts words) (loop_options s millis)
    → IsLink s → IsFromTo 1 MOST_MILLIS millis → loop_at words ≡ Some (command.Loop s millis)
unfolding loop_at
loop_read words s millis has link few =
    let (options, read, (rate_is, (queue_is, (delay_is, (millis_is, _))))) = had (loop_options s millis) words (loop_apart s millis) has in
    let rate_in : (number_for name.Rate options >>= within LEAST_RATE GREATEST_RATE) ≡ Some s.rate =
    within_gives LEAST_RATE GREATEST_RATE s.rate (number_for name.Rate options) rate_is (link.least_rate, link.greatest_rate) in
    let queue_in : (number_for name.Queue options >>= within LEAST_QUEUE GREATEST_QUEUE) ≡ Some s.queue =
    within_gives LEAST_QUEUE GREATEST_QUEUE s.queue (number_for name.Queue options) queue_is (link.least_queue, link.greatest_queue) in
    let delay_in : (number_for name.Delay options >>= within 0 LONGEST_DELAY) ≡ Some s.delay =
    within_gives 0 LONGEST_DELAY s.delay (number_for name.Delay options) delay_is (omega arith, link.longest_delay) in
    let millis_in : (number_for name.Millis options >>= within 1 MOST_MILLIS) ≡ Some millis = within_gives 1 MOST_MILLIS millis (number_for name.Millis options) millis_is few in
    rw (read, rate_in, queue_in, delay_in, millis_in)

apart_gives : (s : RtxSettings) → s.media ≢ s.rtx → apart s ≡ Some s
apart_gives s other = rw (different) refl
  where
    different : (s.media == s.rtx) ≡ false
    different = grind (arith, nat_tests, other)

resend_read : (words : Words) (s : RtxSettings) → HaveOptions (texts words) (resend_options s) → IsAllowed s → resend_at words ≡ Some (command.Resend s)
unfolding resend_at rtx_in
resend_read words s has allowed =
    let (options, read, (media_is, (rtx_is, (payload_is, (repeats_is, _))))) = had (resend_options s) words (resend_apart s) has in
    let media_in : (number_for name.Media options >>= within 0 GREATEST_SSRC) ≡ Some s.media =
    within_gives 0 GREATEST_SSRC s.media (number_for name.Media options) media_is (omega arith, allowed.media) in
    let rtx_found : (number_for name.Rtx options >>= within 0 GREATEST_SSRC) ≡ Some s.rtx =
    within_gives 0 GREATEST_SSRC s.rtx (number_for name.Rtx options) rtx_is (omega arith, allowed.rtx) in
    let payload_in : (number_for name.Payload options >>= within 0 GREATEST_PAYLOAD) ≡ Some s.payload =
    within_gives 0 GREATEST_PAYLOAD s.payload (number_for name.Payload options) payload_is (omega arith, allowed.payload) in
    let repeats_in : (number_for name.Repeats options >>= within 1 MOST_REPEATS) ≡ Some s.repeats =
    within_gives 1 MOST_REPEATS s.repeats (number_for name.Repeats options) repeats_is (allowed.some, allowed.few) in
    rw (read, media_in, rtx_found, payload_in, repeats_in, apart_gives s allowed.apart)

-- a word of these bytes, and words behind it
abbrev AreTitled : Words → List ℕ → List (List ℕ) → Type 0
AreTitled words title rest = (spare : ℕ) × (behind : Words) × (words ≡ word_of title spare ∷ behind) × (texts behind ≡ rest)

are_titled : (words : Words) (title : List ℕ) (rest : List (List ℕ)) → texts words ≡ title ∷ rest → AreTitled words title rest
are_titled [] title rest is = absurd (let no : [] ≡ title ∷ rest = is in cc)
are_titled (w ∷ ws) title rest is =
    let first : w.items ≡ title = cc in
    let others : texts ws ≡ rest = cc in
    (w.spare, ws, ap (λ t. word_of t w.spare ∷ ws) first, others)

pub reads : (words : Words) (c : Command) → Asks (texts words) c → command_of words ≡ Some c
unfolding command_of
reads words command.Replay is =
    let at = are_titled words (codes "replay") [] is in
    ap command_of at.2 ∙ ap (alone command.Replay) (no_words at.1 at.3)
reads words command.Race is =
    let at = are_titled words (codes "race") [] is in
    ap command_of at.2 ∙ ap (alone command.Race) (no_words at.1 at.3)
reads words command.Check is =
    let at = are_titled words (codes "check") [] is in
    ap command_of at.2 ∙ ap (alone command.Check) (no_words at.1 at.3)
reads words command.Compare is =
    let at = are_titled words (codes "compare") [] is in
    ap command_of at.2 ∙ ap (alone command.Compare) (no_words at.1 at.3)
reads words (command.Make seed calls actors) is =
    let at = are_titled words (codes "make") is.0 is.1 in
    ap command_of at.2
    ∙ make_read at.1 seed calls actors (subst (λ ts. HaveOptions ts (make_options seed calls actors)) (sym at.3) is.2) is.3 is.4
reads words (command.Demo seed calls) is =
    let at = are_titled words (codes "demo") is.0 is.1 in
    ap command_of at.2
    ∙ demo_read at.1 seed calls (subst (λ ts. HaveOptions ts (demo_options seed calls)) (sym at.3) is.2) is.3
reads words (command.Loop settings millis) is =
    let at = are_titled words (codes "loop") is.0 is.1 in
    ap command_of at.2
    ∙ loop_read at.1 settings millis (subst (λ ts. HaveOptions ts (loop_options settings millis)) (sym at.3) is.2) is.3 is.4
reads words (command.Resend settings) is =
    let at = are_titled words (codes "resend") is.0 is.1 in
    ap command_of at.2
    ∙ resend_read at.1 settings (subst (λ ts. HaveOptions ts (resend_options settings)) (sym at.3) is.2) is.3

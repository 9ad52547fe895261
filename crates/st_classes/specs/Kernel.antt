-- The kernel's classes, selectors and methods.
use Rattle.std.specs.Prelude.{ℕ, List, [], ◌∷◌, Option, Some, None, if◌then◌else◌, ◌==◌, ◌||◌, codes}
use Rattle.st_classes.specs.declared.values.ClassId.{ClassId}
use Rattle.st_classes.specs.declared.values.Selector.{Selector}
use Rattle.st_classes.specs.declared.kernel.Kernel.{Kernel}
use Rattle.st_classes.specs.declared.kernel.Kernel.TheVariants.{Identical, Equal, ClassOf, IsNil, DoesNotUnderstand, Add, Subtract, Multiply, Quotient, Remainder, Less, Greater, LessOrEqual, GreaterOrEqual, Not, And, Post, PostWith, PostWithWith, Close, New, NewActor}

-- the class with a number
abbrev pub class : ℕ → ClassId
class n = record { 0 = n }

-- the selector with a number
abbrev pub selector : ℕ → Selector
selector n = record { 0 = n }

-- the kernel's selectors, names 0 to 21
abbrev pub kernel_selectors : List (List ℕ)
kernel_selectors =
    codes "=="
    ∷ codes "="
    ∷ codes "class"
    ∷ codes "isNil"
    ∷ codes "doesNotUnderstand:"
    ∷ codes "+"
    ∷ codes "-"
    ∷ codes "*"
    ∷ codes "//"
    ∷ codes "\\\\"
    ∷ codes "<"
    ∷ codes ">"
    ∷ codes "<="
    ∷ codes ">="
    ∷ codes "not"
    ∷ codes "&"
    ∷ codes "post:"
    ∷ codes "post:with:"
    ∷ codes "post:with:with:"
    ∷ codes "close"
    ∷ codes "new"
    ∷ codes "newActor"
    ∷ []

-- `doesNotUnderstand:`, name 4
abbrev pub does_not_understand : Selector
does_not_understand = selector 4

-- the kernel's methods of Object, by the numbers of their selectors
abbrev pub object_method : ℕ → Option Kernel
object_method s =
    if s == 0 then Some Identical
    else (if s == 1 then Some Equal
    else (if s == 2 then Some ClassOf
    else (if s == 3 then Some IsNil
    else (if s == 4 then Some DoesNotUnderstand
    else None))))

-- the kernel's methods of SmallInteger
abbrev pub integer_method : ℕ → Option Kernel
integer_method s =
    if s == 5 then Some Add
    else (if s == 6 then Some Subtract
    else (if s == 7 then Some Multiply
    else (if s == 8 then Some Quotient
    else (if s == 9 then Some Remainder
    else (if s == 10 then Some Less
    else (if s == 11 then Some Greater
    else (if s == 12 then Some LessOrEqual
    else (if s == 13 then Some GreaterOrEqual
    else None))))))))

-- the kernel's methods of True and of False
abbrev pub boolean_method : ℕ → Option Kernel
boolean_method s = if s == 14 then Some Not else (if s == 15 then Some And else None)

-- the kernel's methods of ActorRef
abbrev pub actor_method : ℕ → Option Kernel
actor_method s =
    if s == 16 then Some Post
    else (if s == 17 then Some PostWith
    else (if s == 18 then Some PostWithWith
    else (if s == 19 then Some Close
    else None)))

-- the kernel's methods of Class
abbrev pub class_method : ℕ → Option Kernel
class_method s = if s == 20 then Some New else (if s == 21 then Some NewActor else None)

-- the kernel's method of a class for a selector
abbrev pub kernel_method : ClassId → Selector → Option Kernel
kernel_method c s =
    if c.0 == 0 then object_method s.0
    else (if c.0 == 1 then integer_method s.0
    else (if c.0 == 2 || c.0 == 3 then boolean_method s.0
    else (if c.0 == 6 then actor_method s.0
    else (if c.0 == 7 then class_method s.0
    else None))))

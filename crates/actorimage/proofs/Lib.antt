pub mod BegunAnew
